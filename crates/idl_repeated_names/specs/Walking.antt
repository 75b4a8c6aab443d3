-- A walk from bases to what stands on them, which meets the names of each entity behind those over its base.
use Rattle.std.specs.Prelude.{◌≡◌, ℕ, List, [], ◌∷◌, ◌++◌, length, reverse, Option, Some}
use Rattle.std.specs.Borrow.{Bor}
use Rattle.std.specs.BTreeMap.{BTreeMap, get_by}
use Rattle.std.specs.Cmp.Lexicographic.{slice_cmp}
use Rattle.std.specs.Ordering.{nat_cmp}
use Rattle.idl_model.specs.Trees as tree
use Rattle.idl_repeated_names.specs.Over.{lists_over, names_over}
use Rattle.idl_repeated_names.specs.Twins.{FindsSeconds, HasMet, HaveKeys, Named, SumsSeconds}
use Rattle.idl_repeated_names.specs.declared.least.Least.{Least}
use Rattle.idl_repeated_names.specs.declared.over.Kind.TheVariants.{Functions, Fields}
use Rattle.idl_repeated_names.specs.declared.walk.Asked.{Asked}
use Rattle.idl_repeated_names.specs.declared.walk.Walk.{Walk}
use Rattle.idl_repeated_names.specs.declared.way.Step.{Step}
use Rattle.idl_repeated_names.specs.declared.way.Way.{Way}
use Rattle.uno_model.specs.Entities.{Entity}

-- ---- the way

-- the names over the entity of a step are the first of those that were met, and what is found of second ones among them is kept
pub record IsFront (over : List ℕ → List Named) (ns : List Named) (s : Step) : Type 0 where
  pub rest : List Named
  pub split : ns ≡ over s.name.now ++ rest
  pub many : s.names ≡ length (over s.name.now)
  pub found : HaveKeys (over s.name.now) → SumsSeconds (over s.name.now) s.found

-- and so it is with those of each step below; the last step comes first here
abbrev pub Descends : (List ℕ → List Named) → List Named → List Step → Type 0
Descends over ns [] = Unit {0}
Descends over ns (s ∷ steps) = IsFront over ns s × Descends over (over s.name.now) steps

-- just these names were met on the way
pub record IsOnWay (over : List ℕ → List Named) (way : Way) (ns : List Named) : Type 0 where
  pub met : HasMet way.twins ns
  pub steps : Descends over ns (reverse way.steps.items)
  pub found : HaveKeys ns → FindsSeconds ns way.twins

-- the way has the step behind the others, and is back at its entity
pub record Stands (old new : Way) (s : Step) : Type 0 where
  pub taken : (ns more : List Named) → HasMet old.twins (ns ++ more) → s.names ≡ length ns → HasMet new.twins ns
  pub steps : new.steps.items ≡ old.steps.items ++ s ∷ []
  pub found : new.twins.found ≡ s.found

-- the way goes from names that were met to those over an entity
abbrev pub LeadsOver : (List ℕ → List Named) → Way → Way → List ℕ → Type 0
LeadsOver over old new name = (ns : List Named) → IsOnWay over old ns → IsOnWay over new (over name)

-- the way goes back to the one base
pub record GoesBack (bases : List (List ℕ)) (old new : Way) : Type 0 where
  pub base : List ℕ
  pub alone : bases ≡ base ∷ []
  pub back : (over : List ℕ → List Named) → LeadsOver over old new base

-- ---- what is found

abbrev pub found_at : BTreeMap (Bor (List ℕ)) Least → List ℕ → Option Least
found_at found name = get_by (λ key. slice_cmp nat_cmp name key.now) found

-- what is found over entities is that of the second names over each
abbrev pub FindsOver : (List ℕ → List Named) → BTreeMap (Bor (List ℕ)) Least → Type 0
FindsOver over found = (name : List ℕ) (l : Least) → found_at found name ≡ Some l → HaveKeys (over name) → SumsSeconds (over name) l

pub record Walked (over : List ℕ → List Named) (walk : Walk) : Type 0 where
  pub names : List Named
  pub way : IsOnWay over walk.way names
  pub found : FindsOver over walk.found

-- both walks
pub record AllAsked (functions fields : List ℕ → List Named) (asked : Asked) : Type 0 where
  pub functions_so : FindsOver functions asked.functions.found
  pub fields_so : FindsOver fields asked.fields.found

-- what is found is that of these lists, of which there is one
abbrev pub IsOfLists : List (List Named) → Least → Type 0
IsOfLists lists found = (names : List Named) × (lists ≡ names ∷ []) × (HaveKeys names → SumsSeconds names found)

-- what is found for a declaration is that of the names over it, with its bases
abbrev pub IsFoundOver : Asked → List ℕ → tree.Declaration → Least → Type 0
IsFoundOver asked name body found = (own : List ℕ → Option tree.Declaration) (built reg : List Entity) → AllAsked (names_over Functions own built reg) (names_over Fields own built reg) asked → IsOfLists (lists_over own built reg name body) found
