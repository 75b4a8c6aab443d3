-- Paths as they are told: each is the one round it with its last identifier behind, and where each is told once no two are the same.
use Rattle.std.proofs.Common.{◌≡◌, refl, sym, ap, subst, ◌∙◌, ◌⊎◌, inl, inr, ℕ, zero, suc, ◌+◌, ◌<◌, ◌≤◌, List, [], ◌∷◌, ◌++◌, length, get_or, slice_get, Some, arith}
use Rattle.std.proofs.lemmas.Option.{get_or_from_slice_get, slice_get-get_or, slice_get_within}
use Rattle.std.proofs.Math.ListN.{length-append}
use Rattle.idl_names.specs.Paths.{Parts, Inside, within, paths_behind, paths_of}

-- ---- lists

pub in_front : {X : Type 0} (xs ys : List X) (n : ℕ) → n < length xs → slice_get (xs ++ ys) n ≡ slice_get xs n
in_front [] ys n low = absurd (omega arith)
in_front (x ∷ xs) ys zero low = refl
in_front (x ∷ xs) ys (suc n) low = in_front xs ys n (omega arith)

pub last_there : {X : Type 0} (xs : List X) (x : X) → slice_get (xs ++ x ∷ []) (length xs) ≡ Some x
last_there [] x = refl
last_there (y ∷ xs) x = last_there xs x

pub or_in_front : {X : Type 0} (xs ys : List X) (n : ℕ) (d : X) → n < length xs → get_or (xs ++ ys) n d ≡ get_or xs n d
or_in_front xs ys n d low = get_or_from_slice_get (xs ++ ys) n (get_or xs n d) d (in_front xs ys n low ∙ slice_get-get_or xs n d low)

-- an element of a list with one more is one of the list, or that one
pub at_end : {X : Type 0} (xs : List X) (x : X) (n : ℕ) (y : X) → slice_get (xs ++ x ∷ []) n ≡ Some y → (slice_get xs n ≡ Some y) ⊎ ((n ≡ length xs) × (y ≡ x))
at_end [] x zero y is = inr (refl, cc)
at_end [] x (suc n) y is = absurd (cc)
at_end (z ∷ xs) x zero y is = inl is
at_end (z ∷ xs) x (suc n) y is = elim (at_end xs x n y is) [
  | inl there ↦ inl there
  | inr last ↦ inr (ap suc last.0, last.1)
]

-- lists with one more element are the same only if both are
pub same_end : {X : Type 0} (xs ys : List X) (x y : X) → xs ++ x ∷ [] ≡ ys ++ y ∷ [] → (xs ≡ ys) × (x ≡ y)
same_end [] [] x y is = (refl, cc)
same_end [] (z ∷ []) x y is = absurd (cc)
same_end [] (z ∷ w ∷ ys) x y is = absurd (cc)
same_end (z ∷ []) [] x y is = absurd (cc)
same_end (z ∷ w ∷ xs) [] x y is = absurd (cc)
same_end {X = X} (z ∷ xs) (w ∷ ys) x y is =
    let heads : z ≡ w = cc in
    let tails : ◌≡◌ {A = List X} (xs ++ x ∷ []) (ys ++ y ∷ []) = cc in
    let both = same_end xs ys x y tails in
    ((λ i. heads i ∷ both.0 i), both.1)

pub no_end : {X : Type 0} (xs : List X) (x : X) → [] ≡ xs ++ x ∷ [] → ⊥
no_end [] x is = cc
no_end (y ∷ xs) x is = cc

-- ---- paths

pub behind_append : (ps : List Parts) (ms ns : List Inside) → paths_behind ps (ms ++ ns) ≡ paths_behind (paths_behind ps ms) ns
unfolding paths_behind
behind_append ps [] ns = refl
behind_append ps (m ∷ ms) ns = behind_append (ps ++ within ps m ∷ []) ms ns

pub behind_length : (ps : List Parts) (ms : List Inside) → length (paths_behind ps ms) ≡ length ps + length ms
unfolding paths_behind
behind_length ps [] = omega arith
behind_length ps (m ∷ ms) =
    let rest = behind_length (ps ++ within ps m ∷ []) ms in
    let more = length-append ps (within ps m ∷ []) in
    omega (arith, rest, more)

-- those that are there stay
pub behind_keeps : (ps : List Parts) (ms : List Inside) (n : ℕ) → n < length ps → slice_get (paths_behind ps ms) n ≡ slice_get ps n
unfolding paths_behind
behind_keeps ps [] n low = refl
behind_keeps ps (m ∷ ms) n low =
    let more = length-append ps (within ps m ∷ []) in
    behind_keeps (ps ++ within ps m ∷ []) ms n (omega (arith, more)) ∙ in_front ps (within ps m ∷ []) n low

within_same : (ps qs : List Parts) (m : Inside) → m.0 < length ps → slice_get qs m.0 ≡ slice_get ps m.0 → within qs m ≡ within ps m
within_same ps qs m low is =
    ap (λ (p : Parts). p ++ m.1 ∷ []) (get_or_from_slice_get qs m.0 (get_or ps m.0 []) [] (is ∙ slice_get-get_or ps m.0 [] low))

-- a path that is told by one before it
pub behind_at : (ps : List Parts) (ms : List Inside) (n : ℕ) (m : Inside) → slice_get ms n ≡ Some m
    → ((k : ℕ) (o : Inside) → slice_get ms k ≡ Some o → o.0 < length ps + k) → slice_get (paths_behind ps ms) (length ps + n) ≡ Some (within (paths_behind ps ms) m)
unfolding paths_behind
behind_at ps [] n m at rise = absurd (cc)
behind_at ps (o ∷ ms) zero m at rise =
    let same : ◌≡◌ {A = Inside} o m = cc in
    let low : o.0 < length ps = let r = rise zero o refl in omega (arith, r) in
    let more = length-append ps (within ps o ∷ []) in
    let there : length ps < length (ps ++ within ps o ∷ []) = omega (arith, more) in
    let nothing : length ps + zero ≡ length ps = omega arith in
    let still : o.0 < length (ps ++ within ps o ∷ []) = omega (arith, more, low) in
    let kept = behind_keeps (ps ++ within ps o ∷ []) ms o.0 still ∙ in_front ps (within ps o ∷ []) o.0 low in
    subst (λ k. slice_get (paths_behind (ps ++ within ps o ∷ []) ms) k ≡ Some (within (paths_behind (ps ++ within ps o ∷ []) ms) m)) (sym nothing)
    (subst (λ (z : Inside). slice_get (paths_behind (ps ++ within ps o ∷ []) ms) (length ps) ≡ Some (within (paths_behind (ps ++ within ps o ∷ []) ms) z)) same
    (behind_keeps (ps ++ within ps o ∷ []) ms (length ps) there ∙ last_there ps (within ps o) ∙ ap Some (sym (within_same ps _ o low kept))))
behind_at ps (o ∷ ms) (suc n) m at rise =
    let more = length-append ps (within ps o ∷ []) in
    let later : (k : ℕ) (z : Inside) → slice_get ms k ≡ Some z → z.0 < length (ps ++ within ps o ∷ []) + k = λ k z is. let r = rise (suc k) z is in omega (arith, more, r) in
    let place : length (ps ++ within ps o ∷ []) + n ≡ length ps + suc n = omega (arith, more) in
    subst (λ k. slice_get (paths_behind (ps ++ within ps o ∷ []) ms) k ≡ Some (within (paths_behind (ps ++ within ps o ∷ []) ms) m)) place
    (behind_at (ps ++ within ps o ∷ []) ms n m at later)

-- ---- all paths, from that without an identifier

pub record AreTold (ms : List Inside) : Type 0 where
  pub rise : (n : ℕ) (m : Inside) → slice_get ms n ≡ Some m → m.0 ≤ n
  pub once : (n k : ℕ) (m : Inside) → slice_get ms n ≡ Some m → slice_get ms k ≡ Some m → n ≡ k

pub no_more : paths_of [] ≡ [] ∷ []
unfolding paths_of paths_behind
no_more = refl

pub how_many : (ms : List Inside) → length (paths_of ms) ≡ suc (length ms)
unfolding paths_of
how_many ms = let many = behind_length ([] ∷ []) ms in omega (arith, many)

pub path_first : (ms : List Inside) → slice_get (paths_of ms) 0 ≡ Some []
unfolding paths_of
path_first ms = behind_keeps ([] ∷ []) ms 0 (omega arith)

pub path_one_more : (ms : List Inside) (m : Inside) → paths_of (ms ++ m ∷ []) ≡ paths_of ms ++ within (paths_of ms) m ∷ []
unfolding paths_of paths_behind
path_one_more ms m = behind_append ([] ∷ []) ms (m ∷ [])

module _ (ms : List Inside) (told : AreTold ms) where
  pub path_at : (n : ℕ) (m : Inside) → slice_get ms n ≡ Some m → slice_get (paths_of ms) (suc n) ≡ Some (within (paths_of ms) m)
  unfolding paths_of
  path_at n m at =
      let place : length {A = Parts} ([] ∷ []) + n ≡ suc n = omega arith in
      subst (λ k. slice_get (paths_behind ([] ∷ []) ms) k ≡ Some (within (paths_behind ([] ∷ []) ms) m)) place
      (behind_at ([] ∷ []) ms n m at (λ k o is. let r = told.rise k o is in omega (arith, r)))

  -- two numbers with one path are one
  same_path : (bound n k : ℕ) → n < bound → n ≤ length ms → k ≤ length ms → (p : Parts) → slice_get (paths_of ms) n ≡ Some p → slice_get (paths_of ms) k ≡ Some p → n ≡ k
  same_path zero n k low here there p is also = absurd (omega arith)
  same_path (suc bound) zero zero low here there p is also = refl
  same_path (suc bound) zero (suc k) low here there p is also =
      let m = get_or ms k (0, []) in
      let at = path_at k m (slice_get-get_or ms k (0, []) (omega arith)) in
      let first = path_first ms in
      absurd (no_end (get_or (paths_of ms) m.0 []) m.1 (cc))
  same_path (suc bound) (suc n) zero low here there p is also =
      let m = get_or ms n (0, []) in
      let at = path_at n m (slice_get-get_or ms n (0, []) (omega arith)) in
      let first = path_first ms in
      absurd (no_end (get_or (paths_of ms) m.0 []) m.1 (cc))
  same_path (suc bound) (suc n) (suc k) low here there p is also =
      let m = get_or ms n (0, []) in
      let o = get_or ms k (0, []) in
      let is_m : slice_get ms n ≡ Some m = slice_get-get_or ms n (0, []) (omega arith) in
      let is_o : slice_get ms k ≡ Some o = slice_get-get_or ms k (0, []) (omega arith) in
      let at_m = path_at n m is_m in
      let at_o = path_at k o is_o in
      let both : ◌≡◌ {A = Parts} (within (paths_of ms) m) (within (paths_of ms) o) = cc in
      let parts = same_end (get_or (paths_of ms) m.0 []) (get_or (paths_of ms) o.0 []) m.1 o.1 both in
      let rise_m = told.rise n m is_m in
      let rise_o = told.rise k o is_o in
      let many = how_many ms in
      let round_m : slice_get (paths_of ms) m.0 ≡ Some (get_or (paths_of ms) m.0 []) = slice_get-get_or (paths_of ms) m.0 [] (omega (arith, many, rise_m, here)) in
      let round_o : slice_get (paths_of ms) o.0 ≡ Some (get_or (paths_of ms) o.0 []) = slice_get-get_or (paths_of ms) o.0 [] (omega (arith, many, rise_o, there)) in
      let outer : m.0 ≡ o.0 =
      same_path bound m.0 o.0 (omega (arith, rise_m, low)) (omega (arith, rise_m, here)) (omega (arith, rise_o, there)) (get_or (paths_of ms) m.0 []) round_m (round_o ∙ ap Some (sym parts.0)) in
      ap suc (told.once n k m is_m (is_o ∙ ap Some (sym (λ i. (outer i, parts.1 i)))))

  pub one_path : (n k : ℕ) (p : Parts) → slice_get (paths_of ms) n ≡ Some p → slice_get (paths_of ms) k ≡ Some p → n ≡ k
  one_path n k p is also =
      let many = how_many ms in
      let here = slice_get_within (paths_of ms) n p is in
      let there = slice_get_within (paths_of ms) k p also in
      same_path (suc n) n k (omega arith) (omega (arith, many, here)) (omega (arith, many, there)) p is also

  -- a path of an identifier behind another is told by both
  pub inside_it : (outer k : ℕ) (name : List ℕ) → outer < length (paths_of ms) → slice_get (paths_of ms) k ≡ Some (within (paths_of ms) (outer, name))
      → (n : ℕ) × (k ≡ suc n) × (slice_get ms n ≡ Some (outer, name))
  inside_it outer zero name low is =
      let first = path_first ms in
      absurd (no_end (get_or (paths_of ms) outer []) name (cc))
  inside_it outer (suc n) name low is =
      let many = how_many ms in
      let here = slice_get_within (paths_of ms) (suc n) _ is in
      let m = get_or ms n (0, []) in
      let is_m : slice_get ms n ≡ Some m = slice_get-get_or ms n (0, []) (omega (arith, many, here)) in
      let at_m = path_at n m is_m in
      let both : ◌≡◌ {A = Parts} (within (paths_of ms) m) (within (paths_of ms) (outer, name)) = cc in
      let parts = same_end (get_or (paths_of ms) m.0 []) (get_or (paths_of ms) outer []) m.1 name both in
      let rise_m = told.rise n m is_m in
      let round_m = slice_get-get_or (paths_of ms) m.0 [] (omega (arith, many, rise_m, here)) in
      let round = slice_get-get_or (paths_of ms) outer [] low in
      let same : m.0 ≡ outer = one_path m.0 outer (get_or (paths_of ms) m.0 []) round_m (round ∙ ap Some (sym parts.0)) in
      (n, refl, is_m ∙ ap Some (λ i. (same i, parts.1 i)))
