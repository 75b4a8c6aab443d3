-- What comes of trees that were read of files.
use Rattle.std.specs.Prelude.{ℕ, List, map, IsTrue, Result, Ok, Err}
use Rattle.std.specs.List.{list_all}
use Rattle.idl_compiled_model.specs.Compiling.{Refusal, origin_fits}
use Rattle.idl_compiled_model.specs.Compiling as refusal
use Rattle.idl_meaning_model.specs.Declarations.{declarations, all_valued}
use Rattle.idl_meaning_model.specs.FromFiles.{are_apart, AreOfFiles}
use Rattle.idl_meaning_model.specs.NameFaults.{IsResolved}
use Rattle.idl_model.specs.Places.{Place}
use Rattle.idl_model.specs.Trees.{Tree}
use Rattle.idl_rules_model.specs.CheckVerdicts.{IsChecked}
use Rattle.idl_rules_model.specs.Unshown.{members_have_names}
use Rattle.registry_text_model.specs.Rules.{Rule}
use Rattle.uno_model.specs.Entities.{Entity}

-- trees such as those that were read of files
pub record AreRight (trees : List Tree) : Type 0 where
  pub of_files : AreOfFiles trees
  pub values : IsTrue (are_apart (map (λ v. v.name.place) (all_valued (declarations trees))))
  pub numbers : IsTrue (list_all (λ v. origin_fits v.origin) (all_valued (declarations trees)))
  pub members : IsTrue (list_all (λ d. members_have_names d.body) (declarations trees))

-- all their names stand for something, and this comes of the rules
pub record IsJudged (trees : List Tree) (checked : Result (List Entity) (Rule × Place)) : Type 0 where
  pub names : List (Place × List ℕ)
  pub resolved : IsResolved trees (Ok names)
  pub verdict : IsChecked trees checked

-- their registry, or what they are refused for
abbrev pub ComesOfTrees : List Tree → Result (List Entity) Refusal → Type 0
ComesOfTrees trees (Ok reg) = IsJudged trees (Ok reg)
ComesOfTrees trees (Err (refusal.lexed file why)) = ⊥
ComesOfTrees trees (Err (refusal.parsed why)) = ⊥
ComesOfTrees trees (Err (refusal.named place why)) = IsResolved trees (Err (place, why))
ComesOfTrees trees (Err (refusal.broken rule place)) = IsJudged trees (Err (rule, place))
