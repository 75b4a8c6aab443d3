-- The moves of two ends: how many there are, and which deed of which end is at a place.
use Rattle.std.proofs.Common.{◌≡◌, refl, sym, ap, ◌∙◌, ℕ, zero, suc, ◌+◌, ◌-◌, ◌<◌, ◌≤◌, ◌^◌, min, List, [], ◌∷◌, ◌++◌, length, length-append, map, slice_get, Some, arith}
use Rattle.std.proofs.lemmas.List.{length-map}
use Rattle.move_choice.proofs.ChoosingLemmas.{counted_behind, counted_front}
use Rattle.move_choice.specs.Choosing.{counted}
use Rattle.world_model.specs.Moves.{Deed, Move, Progress, at, deeds, moves}
use Rattle.world_model.specs.Worlds.{Settings, World, of_a, of_b}
use Rattle.world_model.specs.declared.side.Side.{Side}
use Rattle.world_model.specs.declared.side.Side.TheVariants.{A, B}

pub there_is : {X : Type 0} (xs : List X) (n : ℕ) → n < length xs → (x : X) × (slice_get xs n ≡ Some x)
there_is [] n less = let bad : ⊥ = omega arith in absurd bad
there_is (x ∷ xs) zero less = (x, refl)
there_is (x ∷ xs) (suc n) less = let tail : n < length xs = omega arith in there_is xs n tail

mapped_at : (s : Side) (ds : List Deed) (n : ℕ) (m : Move) → slice_get (map (at s) ds) n ≡ Some m → (d : Deed) × (slice_get ds n ≡ Some d) × (m ≡ at s d)
mapped_at s [] n m is = absurd (cc)
mapped_at s (d ∷ ds) zero m is = (d, refl, cc)
mapped_at s (d ∷ ds) (suc n) m is = mapped_at s ds n m is

counted_map : (s : Side) (ds : List Deed) (c : ℕ) → c ≡ counted (length ds) → c ≡ counted (length (map (at s) ds))
counted_map s ds c is = is ∙ ap counted (sym (length-map ds (at s)))

module _ (g : Settings) (w : World) (p : Progress) where
  abbrev of_first : List Deed
  of_first = deeds (of_a g) (of_b g) w.a.now w.b.now p.a

  abbrev of_second : List Deed
  of_second = deeds (of_b g) (of_a g) w.b.now w.a.now p.b

  opened : (n : ℕ) (m : Move) → slice_get (moves g w p) n ≡ Some m → slice_get (map (at A) of_first ++ map (at B) of_second) n ≡ Some m
  unfolding moves
  opened n m is = is

  how_many : length (moves g w p) ≡ length of_first + length of_second
  unfolding moves
  how_many = length-append (map (at A) of_first) (map (at B) of_second) ∙ (ap (λ n. n + length (map (at B) of_second)) (length-map of_first (at A)) ∙ ap (λ n. length of_first + n) (length-map of_second (at B)))

  -- counted at each, and then together
  pub count_both : (m n : ℕ) → m ≡ counted (length of_first) → n ≡ counted (length of_second) → min (m + n) (2 ^ 32 - 1) ≡ min (length (moves g w p)) (2 ^ 32 - 1)
  count_both m n one two = let all : length (moves g w p) ≡ length of_first + length of_second = how_many in omega (arith, one, two, all)

  -- a place below those of A is theirs
  pub at_first : (c n : ℕ) (m : Move) → c ≡ counted (length of_first) → n < c → slice_get (moves g w p) n ≡ Some m → (d : Deed) × (slice_get of_first n ≡ Some d) × (m ≡ at A d)
  at_first c n m is less there = mapped_at A of_first n m (counted_front (map (at A) of_first) (map (at B) of_second) c n m (counted_map A of_first c is) less (opened n m there))

  -- and a place behind them is one of B
  pub at_second : (c n k : ℕ) (m : Move) → c ≡ counted (length of_first) → n < 2 ^ 32 - 1 → c ≤ n → k ≡ n - c → slice_get (moves g w p) n ≡ Some m → (d : Deed) × (slice_get of_second k ≡ Some d) × (m ≡ at B d)
  at_second c n k m is small most rest there =
      mapped_at B of_second k m (counted_behind (map (at A) of_first) (map (at B) of_second) c n k m (counted_map A of_first c is) small most rest (opened n m there))
