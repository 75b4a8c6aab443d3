-- What is written of a registry, sorted together with the built-in entities, is that registry.
use Rattle.std.proofs.Common.{◌≡◌, ℕ, Bool, true, false, not, List, [], ◌∷◌, ◌++◌, map, None, Some, refl, sym, ap, ◌∙◌, inl, inr, if◌then◌else◌}
use Rattle.std.proofs.lemmas.Bool.{cases_Bool, both_ways, false_from_ne_true}
use Rattle.std.proofs.lemmas.Slice.Eq.{bytes_eq-Decides}
use Rattle.std.specs.Cmp.Lexicographic.{slice_cmp}
use Rattle.std.specs.List.{AllByRecursion, Contains, filter}
use Rattle.std.specs.List.Sorted.{IsStrictlySortedBy}
use Rattle.std.specs.Option.{option_or}
use Rattle.std.specs.Ordering.{nat_cmp}
use Rattle.std.specs.Str.{bytes_eq}
use Rattle.std.specs.declared.cmp.Ordering.TheVariants.{Less}
use Rattle.uno_model.specs.BuiltIn.{built_in, HasBuiltIn}
use Rattle.uno_model.specs.Entities.{Entity}
use Rattle.uno_model.specs.Registry.{IsRising, find_entity}
use Rattle.uno_model.proofs.BuiltInLaws.{built_in_alone}
use Rattle.uno_model.proofs.FindLaws.{none_found}
use Rattle.registry_text_model.specs.Lines.{is_built_in_name, written}
use Rattle.registry_reading_model.proofs.HeadFound.{below_differs}
use Rattle.registry_reading_model.proofs.Lifted.{named_built_in, built_in_named}
use Rattle.registry_reading_model.proofs.NamedLaws.{found_written}
use Rattle.registry_reading_model.proofs.OneRegistry.{same_registry}
use Rattle.idl_meaning_model.specs.Meaning.{sorted}
use Rattle.idl_meaning_model.proofs.ApartLaws.{built_in_apart}
use Rattle.idl_meaning_model.proofs.EachLaws.{AllPairsOf, each_append, each_filtered, each_weaker, at_each}
use Rattle.idl_meaning_model.proofs.SortedLaws.{Differ, found_sorted, found_append, sorted_rising}

-- ---- names differ

-- of rising names any two differ
rest_differs : (e : Entity) (es : List Entity) → AllByRecursion (λ n. slice_cmp nat_cmp e.name n ≡ Less) (map (λ f. f.name) es) → AllByRecursion (Differ e) es
rest_differs e [] all = tt
rest_differs e (f ∷ fs) all = ((below_differs e.name f.name all.0).0, rest_differs e fs all.1)

pub rising_differ : (es : List Entity) → IsRising es → AllPairsOf Differ es
unfolding IsStrictlySortedBy
rising_differ [] rising = tt
rising_differ (e ∷ es) rising = (rest_differs e es rising.0, rising_differ es rising.1)

each_still : {X : Type 0} (P : X → Type 0) (test : X → Bool) (xs : List X) → AllByRecursion P xs → AllByRecursion P (filter test xs)
each_still P test xs all = each_filtered P test xs (each_weaker P (λ x. test x ≡ true → P x) xs (λ x p passes. p) all)

pairs_still : {X : Type 0} (R : X → X → Type 0) (test : X → Bool) (xs : List X) → AllPairsOf R xs → AllPairsOf R (filter test xs)
pairs_still R test [] all = tt
pairs_still R test (x ∷ xs) all = by_test (test x) (pairs_still R test xs all.1)
  where
    by_test : (b : Bool) → AllPairsOf R (filter test xs) → AllPairsOf R (if b then x ∷ filter test xs else filter test xs)
    by_test true rest = (each_still (R x) test xs all.0, rest)
    by_test false rest = rest

pairs_joined : {X : Type 0} (R : X → X → Type 0) (xs ys : List X) → AllPairsOf R xs → AllPairsOf R ys → AllByRecursion (λ x. AllByRecursion (R x) ys) xs
    → AllPairsOf R (xs ++ ys)
pairs_joined R [] ys first second across = second
pairs_joined R (x ∷ xs) ys first second across = (each_append (R x) xs ys first.0 across.0, pairs_joined R xs ys first.1 second across.1)

pub written_differ : (reg : List Entity) → IsRising reg → AllPairsOf Differ (written reg)
written_differ reg rising = pairs_still Differ (λ e. not (is_built_in_name e.name)) reg (rising_differ reg rising)

-- ---- built-in names

-- what is written has no built-in name
pub written_own : (reg : List Entity) → AllByRecursion (λ e. is_built_in_name e.name ≡ false) (written reg)
written_own [] = tt
written_own (e ∷ es) = by_test (is_built_in_name e.name) refl (written_own es)
  where
    by_test : (b : Bool) → is_built_in_name e.name ≡ b → AllByRecursion (λ f. is_built_in_name f.name ≡ false) (written es)
        → AllByRecursion (λ f. is_built_in_name f.name ≡ false) (if not b then e ∷ written es else written es)
    by_test true is rest = rest
    by_test false is rest = (is, rest)

-- a built-in entity has another name than one that is not
pub own_differs : (b : Entity) (name : List ℕ) → Contains built_in b → is_built_in_name name ≡ false
    → (bytes_eq b.name name ≡ false) × (bytes_eq name b.name ≡ false)
own_differs b name in' own = (
  false_from_ne_true (bytes_eq b.name name) (λ same. clash ((bytes_eq-Decides b.name name).0 same)),
  false_from_ne_true (bytes_eq name b.name) (λ same. clash (sym ((bytes_eq-Decides name b.name).0 same))),
)
  where
    clash : b.name ≡ name → ⊥
    clash is = both_ways (is_built_in_name name) own (ap is_built_in_name (sym is) ∙ built_in_named b in')

pub own_not_built_in : (name : List ℕ) → is_built_in_name name ≡ false → find_entity name built_in ≡ None
own_not_built_in name own = none_found name built_in (at_each (λ b. bytes_eq name b.name ≡ false) built_in (λ b in'. (own_differs b name in' own).1))

pub all_differ : (reg : List Entity) → IsRising reg → AllPairsOf Differ (built_in ++ written reg)
all_differ reg rising =
    pairs_joined Differ built_in (written reg) built_in_apart (written_differ reg rising)
    (at_each (λ b. AllByRecursion (Differ b) (written reg)) built_in (λ b in'.
    each_weaker (λ e. is_built_in_name e.name ≡ false) (Differ b) (written reg) (λ e own. (own_differs b e.name in' own).0) (written_own reg)))

-- ---- the registry

module _ (reg : List Entity) (has : HasBuiltIn reg) where
  -- the entity of a built-in name is the built-in one
  pub found_built_in : (name : List ℕ) → is_built_in_name name ≡ true → find_entity name reg ≡ find_entity name built_in
  found_built_in name named = of_one (named_built_in name named)
    where
      of_one : (e : Entity) × Contains built_in e × (name ≡ e.name) → find_entity name reg ≡ find_entity name built_in
      of_one (e, in', is) = ap (λ m. find_entity m reg) is ∙ has.found e in' ∙ sym (built_in_alone.found e in') ∙ ap (λ m. find_entity m built_in) (sym is)

  found_either : (name : List ℕ) → option_or (find_entity name built_in) (find_entity name (written reg)) ≡ find_entity name reg
  found_either name = elim (cases_Bool (is_built_in_name name)) [
    | inl named ↦ built_in_first (named_built_in name named) named
    | inr own ↦ ap (λ o. option_or o (find_entity name (written reg))) (own_not_built_in name own) ∙ found_written reg name own
  ]
    where
      built_in_first : (e : Entity) × Contains built_in e × (name ≡ e.name) → is_built_in_name name ≡ true
          → option_or (find_entity name built_in) (find_entity name (written reg)) ≡ find_entity name reg
      built_in_first (e, in', is) named =
          let there : find_entity name built_in ≡ Some e = ap (λ m. find_entity m built_in) is ∙ built_in_alone.found e in' in
          ap (λ o. option_or o (find_entity name (written reg))) there ∙ sym there ∙ sym (found_built_in name named)

  pub sorted_is : IsRising reg → sorted (built_in ++ written reg) ≡ reg
  sorted_is rising =
      let differ = all_differ reg rising in
      same_registry (sorted (built_in ++ written reg)) reg (sorted_rising (built_in ++ written reg) differ) rising
      (λ name. found_sorted name (built_in ++ written reg) differ ∙ found_append name built_in (written reg) ∙ found_either name)
