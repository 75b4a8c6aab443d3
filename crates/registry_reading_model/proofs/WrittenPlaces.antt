-- Where the written entities of a registry stand in it.
use Rattle.std.proofs.Common.{◌≡◌, ℕ, zero, suc, ◌<◌, true, false, List, [], ◌∷◌, ◌++◌, map, take, drop, length, get_or, Contains, refl, sym, ap, ap₂}
use Rattle.std.proofs.Common.{◌∙◌, subst, arith, inl, inr}
use Rattle.std.proofs.lemmas.Bool.{both_ways, cases_Bool}
use Rattle.uno_model.specs.Entities.{Entity}
use Rattle.uno_model.proofs.PlaceLaws.{contains_cases, contains_head, contains_behind}
use Rattle.registry_text_model.specs.Lines.{is_built_in_name, written}
use Rattle.registry_reading_model.specs.Changes.{Change, entity_changed}

-- one entity more in front
pub written_more : (x : Entity) (xs : List Entity) → is_built_in_name x.name ≡ false → written (x ∷ xs) ≡ x ∷ written xs
written_more x xs other = rw other refl

pub written_without : (x : Entity) (xs : List Entity) → is_built_in_name x.name ≡ true → written (x ∷ xs) ≡ written xs
written_without x xs named = rw named refl

-- an entity that is written stands between those before it and those behind it
pub written_at : (reg : List Entity) (place : ℕ) (e : Entity) → place < length reg → get_or reg place e ≡ e → is_built_in_name e.name ≡ false
    → written reg ≡ written (take place reg) ++ e ∷ written (drop (suc place) reg)
written_at [] place e within there other = absurd (omega (arith, within))
written_at (x ∷ xs) zero e within there other =
    written_more x xs (subst (λ (d : Entity). is_built_in_name d.name ≡ false) (sym there) other) ∙ ap (λ d. d ∷ written xs) there
written_at (x ∷ xs) (suc place) e within there other =
    let behind = written_at xs place e (omega (arith, within)) there other in
    elim (cases_Bool (is_built_in_name x.name)) [
      | inl named ↦ written_without x xs named ∙ behind
          ∙ ap (λ ds. ds ++ e ∷ written (drop (suc place) xs)) (sym (written_without x (take place xs) named))
      | inr new ↦ written_more x xs new ∙ ap (λ ds. x ∷ ds) behind
          ∙ ap (λ ds. ds ++ e ∷ written (drop (suc place) xs)) (sym (written_more x (take place xs) new))
    ]

-- it has a place in the registry
abbrev pub StandsBehind : List Entity → List Entity → Entity → Type 0
StandsBehind reg before e = (place : ℕ) × (place < length reg) × (get_or reg place e ≡ e) × (written (take place reg) ≡ before)

one_further : (x : Entity) (xs before front : List Entity) (e : Entity)
    → ((place : ℕ) → written (take place xs) ≡ before → written (x ∷ take place xs) ≡ front)
    → StandsBehind xs before e → StandsBehind (x ∷ xs) front e
one_further x xs before front e more (place, within, there, are) = (suc place, omega (arith, within), there, more place are)

behind_new : (x : Entity) (xs before behind : List Entity) (e : Entity) → is_built_in_name x.name ≡ false → x ∷ written xs ≡ before ++ e ∷ behind
    → ((front : List Entity) → written xs ≡ front ++ e ∷ behind → StandsBehind xs front e) → StandsBehind (x ∷ xs) before e
behind_new x xs [] behind e new same further = let here : x ≡ e = cc in (0, omega arith, here, refl)
behind_new x xs (b ∷ bs) behind e new same further =
    let here : x ≡ b = cc in
    let others : written xs ≡ bs ++ e ∷ behind = cc in
    one_further x xs bs (b ∷ bs) e (λ place are. written_more x (take place xs) new ∙ ap₂ (λ d ds. d ∷ ds) here are) (further bs others)

pub place_of_written : (reg before behind : List Entity) (e : Entity) → written reg ≡ before ++ e ∷ behind → StandsBehind reg before e
place_of_written [] [] behind e same = let bad : ⊥ = cc in absurd bad
place_of_written [] (b ∷ bs) behind e same = let bad : ⊥ = cc in absurd bad
place_of_written (x ∷ xs) before behind e same = elim (cases_Bool (is_built_in_name x.name)) [
  | inl named ↦
      one_further x xs before before e (λ place are. written_without x (take place xs) named ∙ are)
      (place_of_written xs before behind e (sym (written_without x xs named) ∙ same))
  | inr new ↦ behind_new x xs before behind e new (sym (written_more x xs new) ∙ same) (λ front is. place_of_written xs front behind e is)
]

-- what has no built-in name is written
pub contains_written : (reg : List Entity) (d : Entity) → Contains reg d → is_built_in_name d.name ≡ false → Contains (written reg) d
contains_written [] d there other = absurd (omega (arith, there.1))
contains_written (x ∷ xs) d there other =
    elim (cases_Bool (is_built_in_name x.name)) [
      | inl named ↦ subst (λ ds. Contains ds d) (sym (written_without x xs named)) (elim (contains_cases x xs d there) [
        | inl here ↦ absurd (both_ways (is_built_in_name d.name) other (subst (λ (y : Entity). is_built_in_name y.name ≡ true) here named))
        | inr behind ↦ contains_written xs d behind other
      ])
      | inr new ↦ subst (λ ds. Contains ds d) (sym (written_more x xs new)) (elim (contains_cases x xs d there) [
        | inl here ↦ subst (Contains (x ∷ written xs)) here (contains_head x (written xs))
        | inr behind ↦ contains_behind x (written xs) d (contains_written xs d behind other)
      ])
    ]

pub contains_taken : {X : Type 0} (n : ℕ) (xs : List X) (x : X) → Contains (take n xs) x → Contains xs x
contains_taken zero xs x there = absurd (omega (arith, there.1))
contains_taken (suc n) [] x there = absurd (omega (arith, there.1))
contains_taken (suc n) (y ∷ ys) x there = elim (contains_cases y (take n ys) x there) [
  | inl here ↦ subst (Contains (y ∷ ys)) here (contains_head y ys)
  | inr behind ↦ contains_behind y ys x (contains_taken n ys x behind)
]

-- what is written of changed entities is what is written of them, changed
pub written_changed : (c : Change) (reg : List Entity) → written (map (entity_changed c) reg) ≡ map (entity_changed c) (written reg)
written_changed c [] = refl
written_changed c (e ∷ es) = elim (cases_Bool (is_built_in_name e.name)) [
  | inl named ↦ written_without (entity_changed c e) (map (entity_changed c) es) named ∙ written_changed c es
      ∙ ap (map (entity_changed c)) (sym (written_without e es named))
  | inr new ↦
      written_more (entity_changed c e) (map (entity_changed c) es) new ∙ ap (λ ds. entity_changed c e ∷ ds) (written_changed c es)
      ∙ ap (map (entity_changed c)) (sym (written_more e es new))
]
