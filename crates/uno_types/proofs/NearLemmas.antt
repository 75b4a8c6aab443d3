-- What is a base of one of the names that are pending.
use Rattle.std.proofs.Common.{◌≡◌, ◌≢◌, ℕ, ◌+◌, ◌<◌, Bool, true, false, not, List, [], ◌∷◌, ◌++◌, length, map, filter, take, get_or}
use Rattle.std.proofs.Common.{Option, None, Some, refl, sym, ap, subst, ◌∙◌, ◌⊎◌, inl, inr, arith}
use Rattle.std.specs.Prelude.{Contains, ◌↔◌, IsTrue}
use Rattle.std.specs.Borrow.{Bor}
use Rattle.std.specs.Option.{option_to_list}
use Rattle.std.specs.Str.{bytes_eq}
use Rattle.std.proofs.lemmas.List.{append-nil, append_assoc, map-append, map_more}
use Rattle.std.proofs.lemmas.Slice.Eq.{bytes_eq-Decides}
use Rattle.uno_model.specs.Circles.{Leads, step, on}
use Rattle.uno_model.specs.Entities as plain
use Rattle.uno_model.specs.Entities.{Entity}
use Rattle.uno_model.specs.Registry.{stands_on, IsBaseOf, mandatory_bases}
use Rattle.uno_model.proofs.PlaceLaws.{contains_cases, contains_head, contains_behind}
use Rattle.uno_model.proofs.ReachesLaws.{base_of_base}
use Rattle.uno_entities.specs.Entities.{base_of}
use Rattle.uno_entities.specs.declared.entity.Base.{Base}
use Rattle.uno_types.specs.NearBases.{names_in}

-- it is a base of one of them
abbrev pub AnyBase : List Entity → List ℕ → List (List ℕ) → Type 0
AnyBase reg to [] = ⊥
AnyBase reg to (name ∷ names) = IsBaseOf reg to name ⊎ AnyBase reg to names

module _ (reg : List Entity) (to : List ℕ) where
  any_front : (xs ys : List (List ℕ)) → AnyBase reg to xs → AnyBase reg to (xs ++ ys)
  any_front [] ys none = absurd none
  any_front (x ∷ xs) ys (inl here) = inl here
  any_front (x ∷ xs) ys (inr more) = inr (any_front xs ys more)

  any_back : (xs ys : List (List ℕ)) → AnyBase reg to ys → AnyBase reg to (xs ++ ys)
  any_back [] ys some = some
  any_back (x ∷ xs) ys some = inr (any_back xs ys some)

  any_parts : (xs ys : List (List ℕ)) → AnyBase reg to (xs ++ ys) → AnyBase reg to xs ⊎ AnyBase reg to ys
  any_parts [] ys some = inr some
  any_parts (x ∷ xs) ys (inl here) = inl (inl here)
  any_parts (x ∷ xs) ys (inr more) = elim (any_parts xs ys more) [ inl front ↦ inl (inr front) | inr back ↦ inr back ]

  any_contained : (names : List (List ℕ)) (name : List ℕ) → Contains names name → IsBaseOf reg to name → AnyBase reg to names
  any_contained [] name has base = absurd (omega (arith, has.1))
  any_contained (x ∷ xs) name has base =
      elim (contains_cases x xs name has) [ inl here ↦ inl (subst (IsBaseOf reg to) (sym here) base) | inr more ↦ inr (any_contained xs name more base) ]

  contained_any : (names : List (List ℕ)) → AnyBase reg to names → (name : List ℕ) × Contains names name × IsBaseOf reg to name
  contained_any [] none = absurd none
  contained_any (x ∷ xs) (inl here) = (x, contains_head x xs, here)
  contained_any (x ∷ xs) (inr more) = let found = contained_any xs more in (found.0, contains_behind x xs found.0 found.1, found.2)

  -- of any other name it is a base just where it is one of something on which that stands
  out_of : (from : List ℕ) → from ≢ to → IsBaseOf reg to from → AnyBase reg to (stands_on reg from)
  out_of from other (inl same) = absurd (other same)
  out_of from other (inr (step a b has)) = any_contained (stands_on reg from) b has (inl refl)
  out_of from other (inr (on a b c has way)) = any_contained (stands_on reg from) b has (inr way)

  into : (from : List ℕ) → AnyBase reg to (stands_on reg from) → IsBaseOf reg to from
  into from some = let found = contained_any (stands_on reg from) some in base_of_base reg to from found.0 found.1 found.2

  not_equal : (from : List ℕ) → bytes_eq from to ≡ false → from ≢ to
  not_equal from differs same = let bad : false ≡ true = sym differs ∙ (bytes_eq-Decides from to).1 same in absurd cc

  -- the walk begins with what the name stands on
  pub walk_begins : (from : List ℕ) (before names : List (List ℕ)) → bytes_eq from to ≡ false → before ≡ [] → names ≡ before ++ stands_on reg from
      → IsBaseOf reg to from ↔ AnyBase reg to names
  walk_begins from before names differs none is =
      let all : names ≡ stands_on reg from = is ∙ ap (λ xs. xs ++ stands_on reg from) none in
      (λ base. subst (AnyBase reg to) (sym all) (out_of from (not_equal from differs) base), λ some. into from (subst (AnyBase reg to) all some))

  -- and goes on with what one of them stands on
  pub walk_goes_on : (P : Type 0) (name : List ℕ) (rest before names : List (List ℕ)) → P ↔ AnyBase reg to before → before ≡ rest ++ name ∷ []
      → bytes_eq name to ≡ false → names ≡ rest ++ stands_on reg name → P ↔ AnyBase reg to names
  walk_goes_on P name rest before names so_far popped differs is = (
    λ p. subst (AnyBase reg to) (sym is) (elim (any_parts rest (name ∷ []) (subst (AnyBase reg to) popped (so_far.0 p))) [
      | inl front ↦ any_front rest (stands_on reg name) front
      | inr last ↦ any_back rest (stands_on reg name) (elim last [ inl base ↦ out_of name (not_equal name differs) base | inr none ↦ absurd none ])
    ]),
    λ some. so_far.1 (subst (AnyBase reg to) (sym popped) (elim (any_parts rest (stands_on reg name) (subst (AnyBase reg to) is some)) [
      | inl front ↦ any_front rest (name ∷ []) front
      | inr back ↦ any_back rest (name ∷ []) (inl (into name back))
    ])),
  )

  -- it ends where one of them is the name itself
  pub walk_finds : (P : Type 0) (name : List ℕ) (rest before : List (List ℕ)) → P ↔ AnyBase reg to before → before ≡ rest ++ name ∷ []
      → bytes_eq name to ≡ true → IsTrue true ↔ P
  walk_finds P name rest before so_far popped same =
      (λ yes. so_far.1 (subst (AnyBase reg to) (sym popped) (any_back rest (name ∷ []) (inl (inl ((bytes_eq-Decides name to).0 same))))), λ p. refl)

-- ---- the names that are pending

pub names_in-append : (xs ys : List (Option (Bor (List ℕ)))) → names_in (xs ++ ys) ≡ names_in xs ++ names_in ys
names_in-append [] ys = refl
names_in-append (None ∷ xs) ys = names_in-append xs ys
names_in-append (Some x ∷ xs) ys = ap (λ ns. x.now ∷ ns) (names_in-append xs ys)

-- the last of them is taken out
pub names_popped : (old new : List (Option (Bor (List ℕ)))) (result : Option (Option (Bor (List ℕ)))) (next : Option (Bor (List ℕ))) (name : Bor (List ℕ))
    → old ≡ new ++ option_to_list result → result ≡ Some next → next ≡ Some name → names_in old ≡ names_in new ++ name.now ∷ []
names_popped old new result next name is was some =
    ap names_in is ∙ names_in-append new (option_to_list result) ∙ ap (λ o. names_in new ++ names_in (option_to_list o)) (was ∙ ap (λ o. Some o) some)

-- the bases that are not optional, one further
mandatory_bases-append : (xs ys : List plain.Base) → mandatory_bases (xs ++ ys) ≡ mandatory_bases xs ++ mandatory_bases ys
mandatory_bases-append [] ys = refl
mandatory_bases-append (x ∷ xs) ys = by_option x.optional (mandatory_bases-append xs ys)
  where
    by_option : (optional : Bool) → mandatory_bases (xs ++ ys) ≡ mandatory_bases xs ++ mandatory_bases ys
        → mandatory_bases (record { optional = optional; name = x.name } ∷ (xs ++ ys)) ≡ mandatory_bases (record { optional = optional; name = x.name } ∷ xs) ++ mandatory_bases ys
    by_option true rest = rest
    by_option false rest = ap (λ ns. x.name ∷ ns) rest

pub required_more : (old before after : List (List ℕ)) (bases : List Base) (i : ℕ) (b : Base) → before ≡ old ++ mandatory_bases (map base_of (take i bases))
    → after ≡ before ++ mandatory_bases (base_of b ∷ []) → i < length bases → b ≡ get_or bases i b → after ≡ old ++ mandatory_bases (map base_of (take (i + 1) bases))
required_more old before after bases i b so_far added within is =
    let one = map_more base_of bases i b within ∙ ap (λ x. map base_of (take i bases) ++ base_of x ∷ []) (sym is) in
    added ∙ ap (λ ns. ns ++ mandatory_bases (base_of b ∷ [])) so_far ∙ append_assoc old (mandatory_bases (map base_of (take i bases))) (mandatory_bases (base_of b ∷ []))
    ∙ ap (λ ns. old ++ ns) (sym (mandatory_bases-append (map base_of (take i bases)) (base_of b ∷ [])) ∙ ap mandatory_bases (sym one))
