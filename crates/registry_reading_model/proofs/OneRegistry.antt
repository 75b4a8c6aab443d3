-- Registries of the same entities by name are one; so a text says one registry.
use Rattle.std.proofs.Common.{◌≡◌, ℕ, Bool, true, false, List, [], ◌∷◌, map, None, Some, if◌then◌else◌, refl, sym, ap, ap₂}
use Rattle.std.proofs.Common.{◌∙◌, subst, inl, inr, Contains}
use Rattle.std.proofs.lemmas.Bool.{cases_Bool}
use Rattle.std.proofs.lemmas.Cmp.{nat_list_cmp_total}
use Rattle.std.proofs.lemmas.Slice.Eq.{bytes_eq-Decides}
use Rattle.std.specs.Cmp.Lexicographic.{slice_cmp}
use Rattle.std.specs.List.{AllByRecursion}
use Rattle.std.specs.List.Sorted.{IsStrictlySortedBy}
use Rattle.std.specs.Ordering.{nat_cmp, ordering_reverse}
use Rattle.std.specs.Str.{bytes_eq}
use Rattle.std.specs.declared.cmp.Ordering.{Ordering}
use Rattle.std.specs.declared.cmp.Ordering.TheVariants.{Less, Equal, Greater}
use Rattle.uno_model.specs.BuiltIn.{built_in, HasBuiltIn}
use Rattle.uno_model.specs.Entities.{Entity}
use Rattle.uno_model.specs.Registry.{IsRising, find_entity}
use Rattle.uno_model.proofs.FindLaws.{same_equal, none_found, equal_names}
use Rattle.uno_model.proofs.Options.{same_some, none_some}
use Rattle.registry_text_model.specs.Lines.{is_built_in_name, written}
use Rattle.registry_reading_model.proofs.HeadFound.{below_differs}
use Rattle.registry_reading_model.proofs.Lifted.{named_built_in}
use Rattle.registry_reading_model.proofs.NamedLaws.{found_written}

-- ---- registries by the names of their entities

-- a name below those that rise is that of none of them
none_below : (x : List ℕ) (ys : List Entity) → AllByRecursion (λ n. slice_cmp nat_cmp x n ≡ Less) (map (λ e. e.name) ys)
    → AllByRecursion (λ (e : Entity). bytes_eq x e.name ≡ false) ys
none_below x [] all = tt
none_below x (y ∷ ys) all = ((below_differs x y.name all.0).0, none_below x ys all.1)

all_above : (x y : List ℕ) (ys : List Entity) → slice_cmp nat_cmp x y ≡ Less
    → AllByRecursion (λ n. slice_cmp nat_cmp y n ≡ Less) (map (λ e. e.name) ys)
    → AllByRecursion (λ n. slice_cmp nat_cmp x n ≡ Less) (map (λ e. e.name) ys)
all_above x y [] low all = tt
all_above x y (z ∷ zs) low all = (nat_list_cmp_total.trans x y z.name low all.0, all_above x y zs low all.1)

absent_below : (x : List ℕ) (y : Entity) (ys : List Entity) → slice_cmp nat_cmp x y.name ≡ Less → IsRising (y ∷ ys) → find_entity x (y ∷ ys) ≡ None
unfolding IsStrictlySortedBy
absent_below x y ys low rising = none_found x (y ∷ ys) ((below_differs x y.name low).0, none_below x ys (all_above x y.name ys low rising.0))

found_first : (x : Entity) (xs : List Entity) → find_entity x.name (x ∷ xs) ≡ Some x
unfolding find_entity
found_first x xs = rw (same_equal x.name) refl

found_none : (name : List ℕ) → find_entity name [] ≡ None
unfolding find_entity
found_none name = refl

-- behind the first entity of both
found_behind : (x : Entity) (xs ys : List Entity) → IsRising (x ∷ xs) → IsRising (x ∷ ys)
    → ((n : List ℕ) → find_entity n (x ∷ xs) ≡ find_entity n (x ∷ ys))
    → (n : List ℕ) → find_entity n xs ≡ find_entity n ys
unfolding find_entity IsStrictlySortedBy
found_behind x xs ys rising rising_too alike n = by_test (bytes_eq n x.name) refl (alike n)
  where
    absent : (zs : List Entity) → AllByRecursion (λ m. slice_cmp nat_cmp x.name m ≡ Less) (map (λ e. e.name) zs) → n ≡ x.name
        → find_entity n zs ≡ None
    absent zs all is = subst (λ m. find_entity m zs ≡ None) (sym is) (none_found x.name zs (none_below x.name zs all))

    by_test : (b : Bool) → bytes_eq n x.name ≡ b → (if b then Some x else find_entity n xs) ≡ (if b then Some x else find_entity n ys)
        → find_entity n xs ≡ find_entity n ys
    by_test false other both = both
    by_test true is both =
        let named : n ≡ x.name = (bytes_eq-Decides n x.name).0 is in
        absent xs rising.0 named ∙ sym (absent ys rising_too.0 named)

reversed : (x y : List ℕ) → slice_cmp nat_cmp y x ≡ Greater → slice_cmp nat_cmp x y ≡ Less
reversed x y is = nat_list_cmp_total.antisymm x y ∙ ap ordering_reverse is

-- of two registries in which each name is the same entity, the first entities are the same
same_first : (x y : Entity) (xs ys : List Entity) → IsRising (x ∷ xs) → IsRising (y ∷ ys)
    → ((n : List ℕ) → find_entity n (x ∷ xs) ≡ find_entity n (y ∷ ys)) → x ≡ y
same_first x y xs ys rising rising_too alike = by_order (slice_cmp nat_cmp x.name y.name) refl
  where
    by_order : (o : Ordering) → slice_cmp nat_cmp x.name y.name ≡ o → x ≡ y
    by_order Less is = absurd (none_some (sym (absent_below x.name y ys is rising_too) ∙ sym (alike x.name) ∙ found_first x xs))
    by_order Equal is =
        let named : x.name ≡ y.name = equal_names x.name y.name is in
        same_some (sym (found_first x xs) ∙ alike x.name ∙ ap (λ n. find_entity n (y ∷ ys)) named ∙ found_first y ys)
    by_order Greater is = absurd (none_some (sym (absent_below y.name x xs (reversed y.name x.name is) rising) ∙ alike y.name ∙ found_first y ys))

pub same_registry : (xs ys : List Entity) → IsRising xs → IsRising ys → ((n : List ℕ) → find_entity n xs ≡ find_entity n ys) → xs ≡ ys
unfolding IsStrictlySortedBy
same_registry [] [] rising rising_too alike = refl
same_registry [] (y ∷ ys) rising rising_too alike = absurd (none_some (sym (found_none y.name) ∙ alike y.name ∙ found_first y ys))
same_registry (x ∷ xs) [] rising rising_too alike = absurd (none_some (sym (found_none x.name) ∙ sym (alike x.name) ∙ found_first x xs))
same_registry (x ∷ xs) (y ∷ ys) rising rising_too alike =
    let first : x ≡ y = same_first x y xs ys rising rising_too alike in
    let rising_on : IsRising (x ∷ ys) = subst (λ z. IsRising (z ∷ ys)) (sym first) rising_too in
    let alike_on : (n : List ℕ) → find_entity n (x ∷ xs) ≡ find_entity n (x ∷ ys) =
    λ n. alike n ∙ ap (λ z. find_entity n (z ∷ ys)) (sym first) in
    ap₂ (λ z zs. z ∷ zs) first (same_registry xs ys rising.1 rising_too.1 (found_behind x xs ys rising rising_on alike_on))

-- what is written of a registry, and the built-in entities, are the registry
pub same_written : (reg other : List Entity) → IsRising reg → IsRising other → HasBuiltIn reg → HasBuiltIn other → written reg ≡ written other
    → reg ≡ other
same_written reg other rising rising_too has has_too all = same_registry reg other rising rising_too (λ n. elim (cases_Bool (is_built_in_name n)) [
  | inl is ↦ found_both n (named_built_in n is)
  | inr own ↦ sym (found_written reg n own) ∙ ap (find_entity n) all ∙ found_written other n own
])
  where
    found_both : (n : List ℕ) → (e : Entity) × Contains built_in e × (n ≡ e.name) → find_entity n reg ≡ find_entity n other
    found_both n (e, in', is) = ap (λ m. find_entity m reg) is ∙ has.found e in' ∙ sym (has_too.found e in') ∙ ap (λ m. find_entity m other) (sym is)
