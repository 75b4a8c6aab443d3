-- What the map of numbers finds, by the paths that have them.
use Rattle.std.proofs.Common.{◌≡◌, refl, sym, ap, subst, ◌∙◌, inl, inr, ℕ, zero, suc, ◌<◌, ◌≤◌, Bool, true, false, List, [], ◌∷◌, ◌++◌, length, get_or, slice_get, take, drop, Option, None, Some, IfSome, IfNone, Contains, cond, append_assoc, append-nil, arith}
use Rattle.std.specs.Borrow.{Bor}
use Rattle.std.specs.BTreeMap.{BTreeMap}
use Rattle.std.proofs.lemmas.List.{take-append-drop}
use Rattle.std.proofs.lemmas.Option.{slice_get-get_or, slice_get_within, get_or_from_slice_get}
use Rattle.uno_model.proofs.Options.{same_some}
use Rattle.idl_names.specs.Paths.{Parts, Inside, within, paths_of, is_same, number_at, IsNumbered, IsInside}
use Rattle.idl_names.proofs.KeyLaws.{same_is, same_self}
use Rattle.idl_names.proofs.PathLaws.{AreTold, at_end, in_front, last_there, same_end, no_end, how_many, path_first, path_at, path_one_more, inside_it}

module _ (ms : List Inside) (numbers : BTreeMap (ℕ × Bor (List ℕ)) ℕ) (is : IsNumbered ms numbers) where
  pub told : AreTold ms
  told =
      record {
        rise = is.rise;
        once = λ n k m here there. let one = sym (is.known n m here) ∙ is.known k m there in cc;
      }

  pub found : (m : Inside) (o : Option ℕ) → number_at numbers m ≡ o → IfSome o (λ number. slice_get (paths_of ms) number ≡ Some (within (paths_of ms) m))
  found m None at = tt
  found m (Some k) at =
      let one = is.each m k at in
      subst (λ n. slice_get (paths_of ms) n ≡ Some (within (paths_of ms) m)) (sym one.1) (path_at ms told one.0 m one.2)

  -- ---- a path that is not there yet is opened

  module _ (m : Inside) (low : m.0 < length (paths_of ms)) (absent : ¬ Contains (paths_of ms) (within (paths_of ms) m)) where
    not_there : (k : ℕ) → number_at numbers m ≡ Some k → ⊥
    not_there k at =
        let one = is.each m k at in
        let path = path_at ms told one.0 m one.2 in
        absent (suc one.0, slice_get_within (paths_of ms) (suc one.0) (within (paths_of ms) m) path, get_or_from_slice_get (paths_of ms) (suc one.0) (within (paths_of ms) m) (within (paths_of ms) m) path)

    apart : (o : Inside) (n : ℕ) → slice_get ms n ≡ Some o → is_same m o ≡ false
    apart o n at = by_test (is_same m o) refl
      where
        by_test : (b : Bool) → is_same m o ≡ b → b ≡ false
        by_test false test = refl
        by_test true test = absurd (not_there (suc n) (ap (number_at numbers) (same_is m o test) ∙ is.known n o at))

    module _ (new : BTreeMap (ℕ × Bor (List ℕ)) ℕ) (noted : (o : Inside) → number_at new o ≡ cond (is_same m o) (Some (suc (length ms))) (number_at numbers o)) where
      known : (n : ℕ) (o : Inside) → slice_get (ms ++ m ∷ []) n ≡ Some o → number_at new o ≡ Some (suc n)
      known n o at = elim (at_end ms m n o at) [
        | inl there ↦ noted o ∙ ap (λ b. cond b (Some (suc (length ms))) (number_at numbers o)) (apart o n there) ∙ is.known n o there
        | inr last ↦ ap (number_at new) last.1 ∙ noted m ∙ ap (λ b. cond b (Some (suc (length ms))) (number_at numbers m)) (same_self m) ∙ ap (λ k. Some (suc k)) (sym last.0)
      ]

      each : (o : Inside) (k : ℕ) → number_at new o ≡ Some k → (n : ℕ) × (k ≡ suc n) × (slice_get (ms ++ m ∷ []) n ≡ Some o)
      each o k at = by_test (is_same m o) refl
        where
          by_test : (b : Bool) → is_same m o ≡ b → (n : ℕ) × (k ≡ suc n) × (slice_get (ms ++ m ∷ []) n ≡ Some o)
          by_test true test =
              let is_k : ◌≡◌ {A = Option ℕ} (Some k) (Some (suc (length ms))) = sym at ∙ noted o ∙ ap (λ b. cond b (Some (suc (length ms))) (number_at numbers o)) test in
              (length ms, same_some is_k, last_there ms m ∙ ap Some (same_is m o test))
          by_test false test =
              let one = is.each o k (sym (ap (λ b. cond b (Some (suc (length ms))) (number_at numbers o)) test) ∙ sym (noted o) ∙ at) in
              (one.0, one.1, in_front ms (m ∷ []) one.0 (slice_get_within ms one.0 o one.2) ∙ one.2)

      pub one_more : IsNumbered (ms ++ m ∷ []) new
      one_more =
          let many = how_many ms in
          record {
            rise = λ n o at. elim (at_end ms m n o at) [
              | inl there ↦ is.rise n o there
              | inr last ↦ subst (λ (z : Inside). z.0 ≤ n) (sym last.1) (let place = last.0 in omega (arith, place, many, low))
            ];
            known = known;
            each = each;
          }

-- the path that is opened last
pub opened_last : (ms : List Inside) (m : Inside) → slice_get (paths_of (ms ++ m ∷ [])) (suc (length ms)) ≡ Some (within (paths_of ms) m)
opened_last ms m =
    ap (λ ps. slice_get ps (suc (length ms))) (path_one_more ms m)
    ∙ ap (slice_get (paths_of ms ++ within (paths_of ms) m ∷ [])) (sym (how_many ms))
    ∙ last_there (paths_of ms) (within (paths_of ms) m)

-- ---- the path round another

pub inside_at : (ms : List Inside) (numbers : BTreeMap (ℕ × Bor (List ℕ)) ℕ) → IsNumbered ms numbers → (n number : ℕ) → number ≡ suc n → (m : Inside) → slice_get ms n ≡ Some m
    → IsInside (paths_of ms) m number
inside_at ms numbers is n number place m at =
    let low = is.rise n m at in
    record {
      before = omega (arith, low, place);
      path = ap (slice_get (paths_of ms)) place ∙ path_at ms (told ms numbers is) n m at;
    }

-- ---- the paths behind others

-- of a list with something at its end, the end is one element behind some
pub split_end : {X : Type 0} (x : X) (xs : List X) → (front : List X) × (last : X) × (x ∷ xs ≡ front ++ last ∷ [])
split_end x [] = ([], x, refl)
split_end x (y ∷ ys) = let rest = split_end y ys in (x ∷ rest.0, rest.1, ap (λ zs. x ∷ zs) rest.2)

-- where a path is opened, so are those that lead to it
module _ (ms : List Inside) (numbers : BTreeMap (ℕ × Bor (List ℕ)) ℕ) (is : IsNumbered ms numbers) where
  -- the path round one that ends so
  behind_first : (bound k : ℕ) → k < suc bound → (p q : Parts) (x : List ℕ) → slice_get (paths_of ms) k ≡ Some ((p ++ q) ++ x ∷ [])
      → ((j : ℕ) → j < bound → slice_get (paths_of ms) j ≡ Some (p ++ q) → Contains (paths_of ms) p) → Contains (paths_of ms) p
  behind_first bound zero low p q x at again = let first = path_first ms in absurd (no_end (p ++ q) x (cc))
  behind_first bound (suc n) low p q x at again =
      let many = how_many ms in
      let here = slice_get_within (paths_of ms) (suc n) _ at in
      let m = get_or ms n (0, []) in
      let is_m : slice_get ms n ≡ Some m = slice_get-get_or ms n (0, []) (omega (arith, many, here)) in
      let at_m = path_at ms (told ms numbers is) n m is_m in
      let same : ◌≡◌ {A = Parts} (within (paths_of ms) m) ((p ++ q) ++ x ∷ []) = cc in
      let parts = same_end (get_or (paths_of ms) m.0 []) (p ++ q) m.1 x same in
      let rise = is.rise n m is_m in
      let round = slice_get-get_or (paths_of ms) m.0 [] (omega (arith, many, rise, here)) in
      again m.0 (omega (arith, rise, low)) (round ∙ ap Some parts.0)

  leads : (bound k : ℕ) → k < bound → (p q : Parts) → slice_get (paths_of ms) k ≡ Some (p ++ q) → Contains (paths_of ms) p
  leads zero k low p q at = absurd (omega arith)
  leads (suc bound) k low p [] at =
      let here : slice_get (paths_of ms) k ≡ Some p = at ∙ ap Some (append-nil p) in
      (k, slice_get_within (paths_of ms) k p here, get_or_from_slice_get (paths_of ms) k p p here)
  leads (suc bound) k low p (x ∷ q) at =
      let end = split_end x q in
      let whole : p ++ x ∷ q ≡ (p ++ end.0) ++ end.1 ∷ [] = ap (λ z. p ++ z) end.2 ∙ sym (append_assoc p end.0 (end.1 ∷ [])) in
      behind_first bound k low p end.0 end.1 (at ∙ ap Some whole) (λ j less here. leads bound j less p end.0 here)

  pub none_behind : (p q : Parts) → ¬ Contains (paths_of ms) p → ¬ Contains (paths_of ms) (p ++ q)
  none_behind p q none = λ has.
      none (leads (suc has.0) has.0 (omega arith) p q (slice_get-get_or (paths_of ms) has.0 (p ++ q) has.1 ∙ ap Some has.2))

  pub lost : (m : Inside) → m.0 < length (paths_of ms) → (o : Option ℕ) → number_at numbers m ≡ o → IfNone o ((rest : Parts) → ¬ Contains (paths_of ms) (within (paths_of ms) m ++ rest))
  lost m low (Some k) at = tt
  lost m low None at = λ rest. none_behind (within (paths_of ms) m) rest (λ has. absent_at has)
    where
      absent_at : ¬ Contains (paths_of ms) (within (paths_of ms) m)
      absent_at = λ has.
          let there = inside_it ms (told ms numbers is) m.0 has.0 m.1 low (slice_get-get_or (paths_of ms) has.0 (within (paths_of ms) m) has.1 ∙ ap Some has.2) in
          let one = sym at ∙ is.known there.0 m there.2 in
          absurd (cc)

-- ---- the path behind names

-- one name more of a list
pub one_more_name : (p : Parts) (names : Parts) (n : ℕ) (name : List ℕ) → n < length names → name ≡ get_or names n name → (p ++ take n names) ++ name ∷ [] ≡ p ++ take (suc n) names
one_more_name p [] n name low is = absurd (omega arith)
one_more_name p (x ∷ xs) n name low is = append_assoc' ∙ ap (λ z. p ++ z) (taken (x ∷ xs) n name low is)
  where
    append_assoc' : (p ++ take n (x ∷ xs)) ++ name ∷ [] ≡ p ++ (take n (x ∷ xs) ++ name ∷ [])
    append_assoc' = append_assoc p (take n (x ∷ xs)) (name ∷ [])

    taken : (ys : Parts) (k : ℕ) (y : List ℕ) → k < length ys → y ≡ get_or ys k y → take k ys ++ y ∷ [] ≡ take (suc k) ys
    taken [] k y less at = absurd (omega arith)
    taken (z ∷ ys) zero y less at = ap (λ w. w ∷ []) at
    taken (z ∷ ys) (suc k) y less at = ap (λ w. z ∷ w) (taken ys k y (omega arith) at)

-- and all others behind those
pub all_names : (p names : Parts) (n : ℕ) → (p ++ take n names) ++ drop n names ≡ p ++ names
all_names p names n = append_assoc p (take n names) (drop n names) ∙ ap (λ z. p ++ z) (take-append-drop n names)

-- the path of the next name behind that so far
pub longer : (paths : List Parts) (from number n : ℕ) (names : Parts) (name item : List ℕ) → slice_get paths number ≡ Some (get_or paths from [] ++ take n names) → name ≡ item
    → n < length names → item ≡ get_or names n item → within paths (number, name) ≡ get_or paths from [] ++ take (suc n) names
longer paths from number n names name item at same low is =
    ap (λ (p : Parts). p ++ name ∷ []) (get_or_from_slice_get paths number (get_or paths from [] ++ take n names) [] at)
    ∙ ap (λ (z : List ℕ). (get_or paths from [] ++ take n names) ++ z ∷ []) same
    ∙ one_more_name (get_or paths from []) names n item low is
