-- Files that have accepted texts are there, and none of them is refused.
use Rattle.std.proofs.Common.{◌≡◌, ℕ, List, Option, None, Some, subst, ◌⊎◌, inl, inr}
use Rattle.uno_io.specs.Files.{Stored}
use Rattle.uno_model.specs.Entities.{Entity}
use Rattle.command_words.specs.Names.{Text}
use Rattle.plan_model.specs.Plans.{Plan}
use Rattle.plan_model.specs.declared.line_reason.LineReason.{LineReason}
use Rattle.world_model.specs.Worlds.{Settings}
use Rattle.uno_run.specs.Answer.{RefusedPlan}
use Rattle.uno_run.specs.Idl.{IsRefused, IsRegistryText, Refused, Tells}
use Rattle.uno_run.specs.Pair.{AreOfFiles, MissingOf, RefusedPlanOf}
use Rattle.uno_run.specs.Plans.{IsPlan, IsRefusedPlan}
use Rattle.uno_run.specs.declared.reason.RegistryReason.{RegistryReason}
use Rattle.uno_run.proofs.EndingLaws.{one_text, plan_not_refused, same_registry}
use Rattle.uno_run.proofs.IdlRuns.{not_refused}

module _ (store : Option Stored) (files : Stored) (stores : store ≡ Some files) where
  same_text : (name : Text) (one other : List ℕ) → Tells store name (Some one) → Tells store name (Some other) → one ≡ other
  same_text name one other told there = let both : Some one ≡ Some other = one_text store name files (Some one) (Some other) stores told there in cc

  is_there : (name : Text) (text : List ℕ) → Tells store name (Some text) → Tells store name None → ⊥
  is_there name text told there = let both : ◌≡◌ {A = Option (List ℕ)} (Some text) None = one_text store name files (Some text) None stores told there in cc

  registry_kept : (types : Text) (text : List ℕ) (registry : List Entity) → Tells store types (Some text) → IsRegistryText text registry → (line : ℕ) (reason : RegistryReason)
      → Refused store types line reason → ⊥
  registry_kept types text registry told is line reason r = not_refused text registry is line reason (subst (λ t. IsRefused t line reason) (same_text types r.text text r.told told) r.refused)

  plan_kept : (types plan : Text) (text plan_text : List ℕ) (registry : List Entity) (read : Plan) → Tells store types (Some text) → IsRegistryText text registry → Tells store plan (Some plan_text)
      → IsPlan registry plan_text read → (line : ℕ) (why : LineReason) → RefusedPlan store types plan line why → ⊥
  plan_kept types plan text plan_text registry read told is plan_told is_plan line why r =
      let typed = subst (λ t. IsRegistryText t r.registry) (same_text types r.is_of.text text r.is_of.told told) r.is_of.is_text in
      let same = same_registry text r.registry registry typed is in
      let refused = subst (λ t. IsRefusedPlan registry t line why) (same_text plan r.plan_text plan_text r.plan_told plan_told) (subst (λ x. IsRefusedPlan x r.plan_text line why) same r.refused) in
      plan_not_refused registry plan_text read line why is_plan refused

  -- so of the three files of a pair
  module _ (types plan_a plan_b : Text) (g : Settings) (are : AreOfFiles store types plan_a plan_b g) where
    pub types_kept : (line : ℕ) (reason : RegistryReason) → Refused store types line reason → ⊥
    types_kept line reason r = registry_kept types are.types_text g.registry are.types_told are.are_of.is_text line reason r

    pub plans_kept : (file line : ℕ) (why : LineReason) → RefusedPlanOf store types plan_a plan_b file line why → ⊥
    plans_kept file line why (inl a) = plan_kept types plan_a are.types_text are.a_text g.registry g.a.plan are.types_told are.are_of.is_text are.a_told are.are_of.is_plan_a line why a.1
    plans_kept file line why (inr b) = plan_kept types plan_b are.types_text are.b_text g.registry g.b.plan are.types_told are.are_of.is_text are.b_told are.are_of.is_plan_b line why b.2

    pub none_missing : (file : ℕ) → MissingOf store types plan_a plan_b file → ⊥
    none_missing file (inl types_gone) = is_there types are.types_text are.types_told types_gone.1
    none_missing file (inr (inl a)) = is_there plan_a are.a_text are.a_told a.1.plan_told
    none_missing file (inr (inr b)) = is_there plan_b are.b_text are.b_told b.2.plan_told
