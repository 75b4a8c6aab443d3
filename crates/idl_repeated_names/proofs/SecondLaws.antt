-- The places that count where names come one behind the other.
use Rattle.std.proofs.Common.{◌≡◌, refl, sym, ap, ap₂, subst, ◌∙◌, inl, inr, Bool, true, false, List, [], ◌∷◌, ◌++◌, map, append-nil, Option, unwrap_or, if◌then◌else◌, arith}
use Rattle.std.proofs.lemmas.Grind.{flat_map-append}
use Rattle.std.proofs.lemmas.List.{map-append}
use Rattle.std.proofs.lemmas.List.Elements.{Contains-append_cases, Contains-append_left, Contains-append_right}
use Rattle.std.specs.List.{flat_map}
use Rattle.std.specs.Option.{option_or}
use Rattle.std.specs.Str.{bytes_eq}
use Rattle.idl_model.specs.Places.{Place}
use Rattle.idl_rules_model.specs.NamesDiffer.{NameAt, place_of_second, second_names}
use Rattle.idl_repeated_names.specs.Tables.{IsWithin, place_if_second, second_places, seconds}

-- ---- what is in one list is in another

pub in_none : {X : Type 0} (qs : List X) → IsWithin [] qs
in_none qs p has = absurd (omega (arith, has.1))

pub in_both : {X : Type 0} (ps qs rs : List X) → IsWithin ps rs → IsWithin qs rs → IsWithin (ps ++ qs) rs
in_both ps qs rs first second p has = elim (Contains-append_cases ps qs p has) [ inl one ↦ first p one | inr two ↦ second p two ]

pub in_left : {X : Type 0} (ps qs rs : List X) → IsWithin ps qs → IsWithin ps (qs ++ rs)
in_left ps qs rs first p has = Contains-append_left qs rs p (first p has)

pub in_right : {X : Type 0} (ps qs rs : List X) → IsWithin ps rs → IsWithin ps (qs ++ rs)
in_right ps qs rs second p has = Contains-append_right qs rs p (second p has)

pub itself : {X : Type 0} (ps : List X) → IsWithin ps ps
itself ps p has = has

-- ---- one name more

module _ (n : NameAt) where
  abbrev with_last : NameAt → List (Option Place)
  with_last x = place_if_second x n

  row_more : (x : NameAt) (xs : List NameAt) → flat_map (place_if_second x) (xs ++ n ∷ []) ≡ flat_map (place_if_second x) xs ++ with_last x
  row_more x xs = flat_map-append (place_if_second x) xs (n ∷ []) ∙ ap (λ k. flat_map (place_if_second x) xs ++ k) (append-nil (with_last x))

  -- what counts then is what counted, or what counts with that name
  pub one_more_in : (xs : List NameAt) → IsWithin (second_places (xs ++ n ∷ [])) (second_places xs ++ seconds xs n)
  unfolding second_places seconds
  one_more_in [] = in_none []
  one_more_in (x ∷ xs) =
      let row = flat_map (place_if_second x) xs in
      let rest = second_places xs in
      let last = flat_map with_last xs in
      subst (λ ps. IsWithin (ps ++ second_places (xs ++ n ∷ [])) ((row ++ rest) ++ (with_last x ++ last))) (sym (row_more x xs))
      (in_both (row ++ with_last x) (second_places (xs ++ n ∷ [])) ((row ++ rest) ++ (with_last x ++ last))
      (in_both row (with_last x) ((row ++ rest) ++ (with_last x ++ last)) (in_left row (row ++ rest) (with_last x ++ last) (in_left row row rest (itself row)))
      (in_right (with_last x) (row ++ rest) (with_last x ++ last) (in_left (with_last x) (with_last x) last (itself (with_last x)))))
      (λ p has. in_both rest last ((row ++ rest) ++ (with_last x ++ last)) (in_left rest (row ++ rest) (with_last x ++ last) (in_right rest row rest (itself rest)))
      (in_right last (row ++ rest) (with_last x ++ last) (in_right last (with_last x) last (itself last))) p (one_more_in xs p has)))

  pub one_more_has : (xs : List NameAt) → IsWithin (second_places xs ++ seconds xs n) (second_places (xs ++ n ∷ []))
  unfolding second_places seconds
  one_more_has [] = in_none (second_places (n ∷ []))
  one_more_has (x ∷ xs) =
      let row = flat_map (place_if_second x) xs in
      let rest = second_places xs in
      let last = flat_map with_last xs in
      let more = second_places (xs ++ n ∷ []) in
      subst (λ ps. IsWithin ((row ++ rest) ++ (with_last x ++ last)) (ps ++ more)) (sym (row_more x xs))
      (in_both (row ++ rest) (with_last x ++ last) ((row ++ with_last x) ++ more)
      (in_both row rest ((row ++ with_last x) ++ more) (in_left row (row ++ with_last x) more (in_left row row (with_last x) (itself row)))
      (in_right rest (row ++ with_last x) more (λ p has. one_more_has xs p (Contains-append_left rest last p has))))
      (in_both (with_last x) last ((row ++ with_last x) ++ more) (in_left (with_last x) (row ++ with_last x) more (in_right (with_last x) row (with_last x) (itself (with_last x))))
      (in_right last (row ++ with_last x) more (λ p has. one_more_has xs p (Contains-append_right rest last p has)))))

-- ---- the rule's places

abbrev put_own : Place → Option Place → Place
put_own own p = unwrap_or p own

row_told : (own : Place) (x : NameAt) (xs : List NameAt) → flat_map (place_of_second own x) xs ≡ map (put_own own) (flat_map (place_if_second x) xs)
row_told own x [] = refl
row_told own x (y ∷ ys) = by_test (bytes_eq x.name y.name) (row_told own x ys)
  where
    by_test : (b : Bool) → flat_map (place_of_second own x) ys ≡ map (put_own own) (flat_map (place_if_second x) ys)
        → (if b then unwrap_or (option_or y.place x.place) own ∷ [] else []) ++ flat_map (place_of_second own x) ys ≡ map (put_own own) ((if b then option_or y.place x.place ∷ [] else []) ++ flat_map (place_if_second x) ys)
    by_test true rest = ap (λ ps. unwrap_or (option_or y.place x.place) own ∷ ps) rest
    by_test false rest = rest

-- the place of the declaration stands where one is missing
pub seconds_told : (own : Place) (names : List NameAt) → second_names own names ≡ map (λ p. unwrap_or p own) (second_places names)
unfolding second_names second_places
seconds_told own [] = refl
seconds_told own (x ∷ xs) =
    ap₂ (λ ps qs. ps ++ qs) (row_told own x xs) (seconds_told own xs) ∙ sym (map-append (put_own own) (flat_map (place_if_second x) xs) (second_places xs))
