-- Values that come from the peer fit as they are here, and their references are fine where they pass the tests of a message.
use Rattle.std.proofs.Common.{◌≡◌, ℕ, suc, max, Bool, true, false, not, if◌then◌else◌, List, [], ◌∷◌, Option, None, Some, refl, sym, ap, subst, ◌∙◌, arith}
use Rattle.std.specs.Option.{option_or}
use Rattle.message_model.specs.Messages.{Answer, returned, raised}
use Rattle.message_model.specs.Sayable.{AnswerFits, Fill}
use Rattle.uno_model.specs.Entities.{Entity}
use Rattle.uno_model.specs.Fits.{Fits, FitEach, FitAll, RefFits, InterfaceFits, HeldFits, member_kinds}
use Rattle.uno_model.specs.Functions.{Function}
use Rattle.uno_model.specs.Kinds.{Kind}
use Rattle.uno_model.specs.Kinds as kd
use Rattle.uno_model.specs.Values.{Ref, null, own, peer, Plain, Plains, plains, refs, refs_in, object_in, depth, depth_in}
use Rattle.uno_model.specs.Values as v
use Rattle.urp_model.specs.declared.reason.Reason.{Reason}
use Rattle.bridge_laws.specs.Counting.{total, one_if}
use Rattle.bridge_laws.proofs.EffectLaws.{plains_count}
use Rattle.bridge_laws.proofs.HandingLaws.{returned_owes, raised_owes}
use Rattle.bridge_laws.proofs.HomeLaws.{at_home_counts, each_home_counts, home_answer_counts, unless_passed}
use Rattle.bridge_laws.proofs.Sums.{total_append}
use Rattle.bridge_model.specs.Objects.{has_stub, object_supports}
use Rattle.bridge_model.specs.Receiving.{own_refusal, ref_refusal, refs_refusal}
use Rattle.bridge_model.specs.References.{home_value, home_values, each_home, home_answer, refs_of_values, refs_of_answer}
use Rattle.bridge_model.specs.Settings.{Setting, is_own, ref_of, at_home}
use Rattle.bridge_model.specs.Sides.{Object, Tables}
use Rattle.bridge_laws.proofs.Fine.{is_well, wrong}
use Rattle.bridge_laws.proofs.FineLaws.{is_well_of, well_is, fine_own, fine_peer}

-- ---- as values are here

ref_home : (reg : List Entity) (g : Setting) (wanted oid face : List ℕ) (b : Bool) → HeldFits reg oid face wanted → InterfaceFits reg wanted (if b then own oid face else peer oid face)
ref_home reg g wanted oid face true fits = fits
ref_home reg g wanted oid face false fits = fits

refs_home : (reg : List Entity) (g : Setting) (r : Ref) (k : Kind) → RefFits reg k r → RefFits reg k (at_home g r)
unfolding ref_of
refs_home reg g null k fits = fits
refs_home reg g (own oid face) (kd.interface wanted) fits = ref_home reg g wanted oid face (is_own g oid) fits
refs_home reg g (own oid face) k fits = absurd fits
refs_home reg g (peer oid face) (kd.interface wanted) fits = ref_home reg g wanted oid face (is_own g oid) fits
refs_home reg g (peer oid face) k fits = absurd fits

mutual
  unfolding home_value home_values Fits FitEach FitAll

  value_home : (reg : List Entity) (g : Setting) (x : Plain) (k : Kind) → Fits reg x k → Fits reg (home_value g x) k
  value_home reg g (v.any t x) k fits = (fits.0, fits.1, fits.2, value_home reg g x t fits.3)
  value_home reg g (v.tuple name xs) k fits = (fits.0, fits.1, values_home reg g xs (member_kinds reg name) fits.2)
  value_home reg g (v.list t xs) k fits = (fits.0, fits.1, fits.2, all_home reg g xs t fits.3)
  value_home reg g (v.ref r) k fits = refs_home reg g r k fits
  value_home reg g x k fits = fits

  values_home : (reg : List Entity) (g : Setting) (xs : Plains) (ks : List Kind) → FitEach reg xs ks → FitEach reg (home_values g xs) ks
  values_home reg g v.none ks fits = fits
  values_home reg g (v.more x xs) [] fits = absurd fits
  values_home reg g (v.more x xs) (k ∷ ks) fits = (value_home reg g x k fits.0, values_home reg g xs ks fits.1)

  all_home : (reg : List Entity) (g : Setting) (xs : Plains) (k : Kind) → FitAll reg xs k → FitAll reg (home_values g xs) k
  all_home reg g v.none k fits = fits
  all_home reg g (v.more x xs) k fits = (value_home reg g x k fits.0, all_home reg g xs k fits.1)

mutual
  unfolding home_value home_values depth depth_in

  depth_home : (g : Setting) (x : Plain) → depth (home_value g x) ≡ depth x
  depth_home g (v.any t x) = ap suc (depth_home g x)
  depth_home g (v.tuple name xs) = ap suc (depths_home g xs)
  depth_home g (v.list t xs) = ap suc (depths_home g xs)
  depth_home g (v.ref r) = refl
  depth_home g x = refl

  depths_home : (g : Setting) (xs : Plains) → depth_in (home_values g xs) ≡ depth_in xs
  depths_home g v.none = refl
  depths_home g (v.more x xs) = ap (λ n. max n (depth_in (home_values g xs))) (depth_home g x) ∙ ap (max (depth x)) (depths_home g xs)

each_plains : (g : Setting) (xs : List Plain) → plains (each_home g xs) ≡ home_values g (plains xs)
unfolding each_home home_values
each_plains g [] = refl
each_plains g (x ∷ xs) = ap (v.more (home_value g x)) (each_plains g xs)

pub fill_home : (reg : List Entity) (g : Setting) (xs : List Plain) (ks : List Kind) → Fill reg xs ks → Fill reg (each_home g xs) ks
fill_home reg g xs ks fill =
    let same = each_plains g xs in
    let depth_same = ap depth_in same ∙ depths_home g (plains xs) in let deep = fill.deep in
    record {
      fit = subst (λ ys. FitEach reg ys ks) (sym same) (values_home reg g (plains xs) ks fill.fit);
      deep = omega arith;
    }

pub answer_home : (reg : List Entity) (g : Setting) (f : Function) (a : Answer) → AnswerFits reg f a → AnswerFits reg f (home_answer g a)
unfolding home_answer Fits depth
answer_home reg g f (returned x outs) fits =
    let same = depth_home g x in let deep = fits.1 in
    (value_home reg g x f.result_kind fits.0, omega arith, fill_home reg g outs _ fits.2)
answer_home reg g f (raised k x) fits =
    let same = depth_home g x in let deep = fits.2 in
    (fits.0, (fits.1.0, fits.1.1, fits.1.2, value_home reg g x k fits.1.3), omega arith)

-- ---- their references

-- 1 for a reference without an identity or an interface
unfoldable pub ill : List Entity → Ref → ℕ
ill reg null = 0
ill reg (own oid face) = one_if (not (is_well reg oid face))
ill reg (peer oid face) = one_if (not (is_well reg oid face))

held_well : (reg : List Entity) (oid face wanted : List ℕ) → HeldFits reg oid face wanted → one_if (not (is_well reg oid face)) ≡ 0
held_well reg oid face wanted fits = ap (λ b. one_if (not b)) (is_well_of reg oid face fits.identity fits.held)

ref_well : (reg : List Entity) (r : Ref) (k : Kind) → RefFits reg k r → total (ill reg) (object_in r) ≡ 0
unfolding total ill
ref_well reg null k fits = refl
ref_well reg (own oid face) (kd.interface wanted) fits = let one = held_well reg oid face wanted fits in omega arith
ref_well reg (own oid face) k fits = absurd fits
ref_well reg (peer oid face) (kd.interface wanted) fits = let one = held_well reg oid face wanted fits in omega arith
ref_well reg (peer oid face) k fits = absurd fits

mutual
  unfolding refs total Fits FitEach FitAll

  value_well : (reg : List Entity) (x : Plain) (k : Kind) → Fits reg x k → total (ill reg) (refs x) ≡ 0
  value_well reg (v.any t x) k fits = value_well reg x t fits.3
  value_well reg (v.tuple name xs) k fits = values_well reg xs (member_kinds reg name) fits.2
  value_well reg (v.list t xs) k fits = all_well reg xs t fits.3
  value_well reg (v.ref r) k fits = ref_well reg r k fits
  value_well reg x k fits = refl

  values_well : (reg : List Entity) (xs : Plains) (ks : List Kind) → FitEach reg xs ks → total (ill reg) (refs_in xs) ≡ 0
  values_well reg v.none ks fits = refl
  values_well reg (v.more x xs) [] fits = absurd fits
  values_well reg (v.more x xs) (k ∷ ks) fits =
      let parts = total_append (ill reg) (refs x) (refs_in xs) in let here = value_well reg x k fits.0 in let rest = values_well reg xs ks fits.1 in omega arith

  all_well : (reg : List Entity) (xs : Plains) (k : Kind) → FitAll reg xs k → total (ill reg) (refs_in xs) ≡ 0
  all_well reg v.none k fits = refl
  all_well reg (v.more x xs) k fits =
      let parts = total_append (ill reg) (refs x) (refs_in xs) in let here = value_well reg x k fits.0 in let rest = all_well reg xs k fits.1 in omega arith

arguments_well : (reg : List Entity) (xs : List Plain) (ks : List Kind) → Fill reg xs ks → total (ill reg) (refs_of_values xs) ≡ 0
arguments_well reg xs ks fill = let same = plains_count (ill reg) xs in let all = values_well reg (plains xs) ks fill.fit in omega arith

answer_well : (reg : List Entity) (f : Function) (a : Answer) → AnswerFits reg f a → total (ill reg) (refs_of_answer a) ≡ 0
unfolding Fits
answer_well reg f (returned x outs) fits =
    let parts = returned_owes (ill reg) x outs in let here = value_well reg x f.result_kind fits.0 in let rest = arguments_well reg outs _ fits.2 in omega arith
answer_well reg f (raised k x) fits = let parts = raised_owes (ill reg) k x in let here = value_well reg x k fits.1.3 in omega arith

-- ---- what passes the tests

none_not : (b : Bool) → one_if (not b) ≡ 0 → b ≡ true
none_not true is = refl
none_not false is = absurd (omega arith)

or_passed : (a b : Option Reason) → option_or a b ≡ None → (a ≡ None) × (b ≡ None)
or_passed None b is = (refl, is)
or_passed (Some why) b is = absurd (cc)

module _ (g : Setting) (os : List Object) (t : Tables) (same : t.objects ≡ os) where
  passed_by : (oid face : List ℕ) (b : Bool) → is_own g oid ≡ b → is_well g.registry oid face ≡ true → (if b then own_refusal g t oid face else None) ≡ None
      → wrong g os (if b then own oid face else peer oid face) ≡ 0
  passed_by oid face true told well passed =
      let first = unless_passed (has_stub oid t.stubs) _ _ passed in
      let second = unless_passed (object_supports g oid face t.objects) _ _ first.1 in
      let parts = well_is g.registry oid face well in
      fine_own g os oid face (record { told = told; identity = parts.0; interface = parts.1; supported = ap (object_supports g oid face) (sym same) ∙ second.0 })
  passed_by oid face false told well passed =
      let parts = well_is g.registry oid face well in fine_peer g os oid face (record { told = told; identity = parts.0; interface = parts.1 })

  nothing_wrong : wrong g os null ≡ 0
  unfolding wrong
  nothing_wrong = refl

  passed_ref : (r : Ref) → ill g.registry r ≡ 0 → ref_refusal g t r ≡ None → wrong g os (at_home g r) ≡ 0
  unfolding ill ref_of
  passed_ref null well passed = nothing_wrong
  passed_ref (own oid face) well passed = passed_by oid face (is_own g oid) refl (none_not (is_well g.registry oid face) well) passed
  passed_ref (peer oid face) well passed = passed_by oid face (is_own g oid) refl (none_not (is_well g.registry oid face) well) passed

  passed_refs : (rs : List Ref) → total (ill g.registry) rs ≡ 0 → refs_refusal g t rs ≡ None → total (at_home_counts (wrong g os) g) rs ≡ 0
  unfolding refs_refusal total
  passed_refs [] well passed = refl
  passed_refs (r ∷ rs) well passed =
      let both = or_passed (ref_refusal g t r) (refs_refusal g t rs) passed in
      let here = passed_ref r (omega arith) both.0 in let rest = passed_refs rs (omega arith) both.1 in omega arith

  pub arguments_fine : (xs : List Plain) (ks : List Kind) → Fill g.registry xs ks → refs_refusal g t (refs_of_values xs) ≡ None → total (wrong g os) (refs_of_values (each_home g xs)) ≡ 0
  arguments_fine xs ks fill passed = each_home_counts (wrong g os) g xs ∙ passed_refs (refs_of_values xs) (arguments_well g.registry xs ks fill) passed

  pub answer_fine : (f : Function) (a : Answer) → AnswerFits g.registry f a → refs_refusal g t (refs_of_answer a) ≡ None → total (wrong g os) (refs_of_answer (home_answer g a)) ≡ 0
  answer_fine f a fits passed = home_answer_counts (wrong g os) g a ∙ passed_refs (refs_of_answer a) (answer_well g.registry f a fits) passed
