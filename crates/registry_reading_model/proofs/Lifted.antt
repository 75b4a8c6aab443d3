-- Of a registry whose written entities are what a reader keeps of others, these others with the built-in ones are a registry too.
use Rattle.std.proofs.Common.{◌≡◌, ℕ, zero, suc, true, false, List, [], ◌∷◌, map, Option, None, Some, option_map, Contains, refl, sym, ap, ap₂, ◌∙◌}
use Rattle.std.proofs.Common.{subst, arith, inl, inr}
use Rattle.std.specs.List.Sorted.{IsStrictlySortedBy}
use Rattle.std.specs.Cmp.Lexicographic.{slice_cmp}
use Rattle.std.specs.Ordering.{nat_cmp}
use Rattle.std.specs.Str.{bytes_eq}
use Rattle.std.proofs.lemmas.Bool.{both_ways, cases_Bool}
use Rattle.std.proofs.lemmas.Slice.Eq.{bytes_eq-Decides}
use Rattle.uno_model.specs.BuiltIn.{built_in, HasBuiltIn, disposed_exception, factory, base_exception, runtime_exception, x_interface}
use Rattle.uno_model.specs.Entities.{Entity}
use Rattle.uno_model.specs.Registry.{IsRising, find_entity}
use Rattle.uno_model.proofs.BuiltInLaws.{contained_found}
use Rattle.uno_model.proofs.Options.{same_some, none_some}
use Rattle.uno_model.proofs.PlaceLaws.{at_slice, contains_cases, contains_head, contains_behind}
use Rattle.uno_model.proofs.ReachLaws.{found_place}
use Rattle.uno_model.proofs.ReachesLaws.{passing}
use Rattle.registry_text_model.specs.Lines.{built_in_names, is_built_in_name, written}
use Rattle.registry_reading_model.specs.Changes.{entity_changed}
use Rattle.registry_reading_model.specs.Kept.{limited, cut, innermost}
use Rattle.registry_reading_model.specs.Kinds.{sequences}
use Rattle.registry_reading_model.proofs.BuiltInFacts.{each_built_in}
use Rattle.registry_reading_model.proofs.ChangedRegistries.{find_changed}
use Rattle.registry_reading_model.proofs.Mapped.{map_mapped}

-- ---- the built-in entities

-- a reader keeps them as they are
pub built_in_stays : (e : Entity) → Contains built_in e → entity_changed limited e ≡ e
unfolding cut sequences innermost
built_in_stays = each_built_in (λ e. entity_changed limited e ≡ e) refl refl refl refl refl

-- each built-in name is that of one of them
of_place : (name : List ℕ) → Contains built_in_names name → (e : Entity) × Contains built_in e × (name ≡ e.name)
of_place name (zero, low, is) = (disposed_exception, (0, omega arith, refl), sym is)
of_place name (suc zero, low, is) = (factory, (1, omega arith, refl), sym is)
of_place name (suc (suc zero), low, is) = (base_exception, (2, omega arith, refl), sym is)
of_place name (suc (suc (suc zero)), low, is) = (runtime_exception, (3, omega arith, refl), sym is)
of_place name (suc (suc (suc (suc zero))), low, is) = (x_interface, (4, omega arith, refl), sym is)
of_place name (suc (suc (suc (suc (suc k)))), low, is) = absurd (omega (arith, low))

pub named_built_in : (name : List ℕ) → is_built_in_name name ≡ true → (e : Entity) × Contains built_in e × (name ≡ e.name)
unfolding is_built_in_name
named_built_in name is =
    let found = passing (bytes_eq name) built_in_names is in
    let one = of_place found.0 found.1 in
    (one.0, one.1, (bytes_eq-Decides name found.0).0 found.2 ∙ one.2)

-- and each has a built-in name
pub built_in_named : (e : Entity) → Contains built_in e → is_built_in_name e.name ≡ true
unfolding is_built_in_name
built_in_named = each_built_in (λ e. is_built_in_name e.name ≡ true) refl refl refl refl refl

-- what has a built-in name in a registry is built in
pub of_built_in_name : (reg : List Entity) → IsRising reg → HasBuiltIn reg → (e : Entity) → Contains reg e → is_built_in_name e.name ≡ true
    → Contains built_in e
of_built_in_name reg rising has e there named =
    let one = named_built_in e.name named in
    let found = contained_found reg e rising there in
    let same : e ≡ one.0 = same_some (sym found ∙ ap (λ n. find_entity n reg) one.2 ∙ has.found one.0 one.1) in
    subst (Contains built_in) (sym same) one.1

-- ---- lifting

-- entities of which these are kept, and which are written as those
abbrev Lifts : List Entity → List Entity → Type 0
Lifts ks es =
    (reg : List Entity) × (map (entity_changed limited) reg ≡ ks) × (written reg ≡ es)
    × ((d : Entity) → Contains reg d → is_built_in_name d.name ≡ true → entity_changed limited d ≡ d)

with_built_in : (k : Entity) (ks es : List Entity) → is_built_in_name k.name ≡ true → entity_changed limited k ≡ k → Lifts ks es → Lifts (k ∷ ks) es
with_built_in k ks es named stays (reg, kept, are, fixed) = (
  k ∷ reg,
  ap₂ (λ x xs. x ∷ xs) stays kept,
  rw named are,
  λ d there is. elim (contains_cases k reg d there) [
    | inl here ↦ subst (λ x. entity_changed limited x ≡ x) here stays
    | inr behind ↦ fixed d behind is
  ],
)

with_written : (k e : Entity) (ks es : List Entity) → is_built_in_name k.name ≡ false → k ≡ entity_changed limited e → Lifts ks es
    → Lifts (k ∷ ks) (e ∷ es)
with_written k e ks es other is_kept (reg, kept, are, fixed) =
    let own : is_built_in_name e.name ≡ false = sym (ap (λ (x : Entity). is_built_in_name x.name) is_kept) ∙ other in (
      e ∷ reg,
      ap₂ (λ x xs. x ∷ xs) (sym is_kept) kept,
      rw own (ap (λ xs. e ∷ xs) are),
      λ d there is. elim (contains_cases e reg d there) [
        | inl here ↦ absurd (both_ways (is_built_in_name e.name) own (subst (λ x. is_built_in_name x.name ≡ true) (sym here) is))
        | inr behind ↦ fixed d behind is
      ],
    )

lift_written : (k : Entity) (ks es : List Entity) → is_built_in_name k.name ≡ false → k ∷ written ks ≡ map (entity_changed limited) es
    → ((fs : List Entity) → written ks ≡ map (entity_changed limited) fs → Lifts ks fs) → Lifts (k ∷ ks) es
lift_written k ks [] other same behind = let bad : ⊥ = cc in absurd bad
lift_written k ks (e ∷ es) other same behind =
    let head : k ≡ entity_changed limited e = cc in
    let tail : written ks ≡ map (entity_changed limited) es = cc in
    with_written k e ks es other head (behind es tail)

lift : (ks es : List Entity) → written ks ≡ map (entity_changed limited) es
    → ((k : Entity) → Contains ks k → is_built_in_name k.name ≡ true → entity_changed limited k ≡ k) → Lifts ks es
lift [] [] same stays = ([], refl, refl, λ d there is. absurd (omega (arith, there.1)))
lift [] (e ∷ es) same stays = let bad : ⊥ = cc in absurd bad
lift (k ∷ ks) es same stays =
    let behind : (fs : List Entity) → written ks ≡ map (entity_changed limited) fs → Lifts ks fs =
    λ fs is. lift ks fs is (λ x there. stays x (contains_behind k ks x there)) in
    elim (cases_Bool (is_built_in_name k.name)) [
      | inl named ↦ with_built_in k ks es named (stays k (contains_head k ks) named) (behind es (rw named at same))
      | inr other ↦ lift_written k ks es other (rw other at same) behind
    ]

-- ---- the registry of the others

rising_as : (reg ks : List Entity) → map (entity_changed limited) reg ≡ ks → IsRising ks → IsRising reg
rising_as reg ks kept rising =
    subst (IsStrictlySortedBy (slice_cmp nat_cmp))
    (ap (map (λ e. e.name)) (sym kept) ∙ map_mapped (entity_changed limited) (λ (e : Entity). e.name) (λ e. e.name) (λ e. refl) reg) rising

contained_of : (name : List ℕ) (reg : List Entity) (d : Entity) → find_entity name reg ≡ Some d → Contains reg d × (d.name ≡ name)
contained_of name reg d found =
    let place = found_place name reg d found in
    let at = at_slice reg place.0 d d place.1 in
    ((place.0, at.0, at.1), place.2)

built_in_found : (reg : List Entity) → ((d : Entity) → Contains reg d → is_built_in_name d.name ≡ true → entity_changed limited d ≡ d) → (e : Entity)
    → Contains built_in e
    → find_entity e.name (map (entity_changed limited) reg) ≡ Some e → find_entity e.name reg ≡ Some e
built_in_found reg fixed e in' found = by_find (find_entity e.name reg) refl (sym (find_changed limited e.name reg) ∙ found)
  where
    by_find : (o : Option Entity) → find_entity e.name reg ≡ o → option_map (entity_changed limited) (find_entity e.name reg) ≡ Some e
        → find_entity e.name reg ≡ Some e
    by_find None absent is = let none : None ≡ Some e = rw absent at is in absurd (none_some none)
    by_find (Some d) there is =
        let kept : Some (entity_changed limited d) ≡ Some e = rw there at is in
        let has = contained_of e.name reg d there in
        let stays = fixed d has.0 (subst (λ n. is_built_in_name n ≡ true) (sym has.1) (built_in_named e in')) in
        there ∙ ap (λ x. Some x) (sym stays ∙ same_some kept)

pub lifted : (ks es : List Entity) → IsRising ks → HasBuiltIn ks → written ks ≡ map (entity_changed limited) es
    → (reg : List Entity) × (map (entity_changed limited) reg ≡ ks) × (written reg ≡ es) × IsRising reg × HasBuiltIn reg
lifted ks es rising has same =
    let made = lift ks es same (λ k there named. built_in_stays k (of_built_in_name ks rising has k there named)) in (
      made.0,
      made.1,
      made.2,
      rising_as made.0 ks made.1 rising,
      record { found = λ e in'. built_in_found made.0 made.3 e in' (ap (find_entity e.name) made.1 ∙ has.found e in') },
    )
