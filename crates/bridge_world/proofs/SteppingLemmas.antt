-- The roots that move, one run after the other.
use Rattle.std.proofs.Common.{◌≡◌, refl, sym, ap, ◌∙◌, ℕ, suc, ◌+◌, ◌-◌, ◌<◌, ◌≤◌, ◌^◌, min, Bool, true, false, List, [], ◌++◌, length, drop, get_or, map, slice_get, Option, None, Some, add-one, arith}
use Rattle.std.proofs.lemmas.List.{drop_all}
use Rattle.behaviour.specs.Roots.{run_of}
use Rattle.behaviour.specs.declared.root.RootRun.{RootRun}
use Rattle.bridge_model.specs.RootRuns.{root_moves}
use Rattle.bridge_model.specs.Settings.{Setting}
use Rattle.bridge_model.specs.Sides.{Side}
use Rattle.move_choice.specs.Choosing.{counted}
use Rattle.world_model.specs.Moves.{Deed, does_move, one_if, stepping, steps}
use Rattle.uno_values.proofs.Parts.{part_at}

one_more : (b : Bool) (d : Deed) (ds : List Deed) (count : ℕ) → b ≡ true → counted (count + length (one_if b d ++ ds)) ≡ counted (suc count + length ds)
one_more true d ds count is = omega arith
one_more false d ds count is = absurd (cc)

not_more : (b : Bool) (d : Deed) (ds : List Deed) → b ≡ false → one_if b d ++ ds ≡ ds
not_more false d ds is = refl
not_more true d ds is = absurd (cc)

found_there : (b : Bool) (d : Deed) (ds : List Deed) → b ≡ true → slice_get (one_if b d ++ ds) 0 ≡ Some d
found_there true d ds is = refl
found_there false d ds is = absurd (cc)

found_later : (b : Bool) (d : Deed) (ds : List Deed) (n : ℕ) → b ≡ true → slice_get (one_if b d ++ ds) (suc n) ≡ slice_get ds n
found_later true d ds n is = refl
found_later false d ds n is = absurd (cc)

capped : (count more rest : ℕ) → more ≡ min (count + 1) (2 ^ 32 - 1) → counted (more + rest) ≡ counted (suc count + rest)
capped count more rest is = omega (arith, is)

module _ (g : Setting) (s : Side) (rs : List RootRun) (i : ℕ) (r : RootRun) (within : i < length rs) (is : r ≡ get_or rs i r) where
  abbrev later : List Deed
  later = stepping g s (i + 1) (map run_of (drop (i + 1) rs))

  at_place : stepping g s i (map run_of (drop i rs)) ≡ one_if (does_move (root_moves g s (run_of r))) (steps i) ++ stepping g s (suc i) (map run_of (drop (i + 1) rs))
  unfolding stepping
  at_place = ap (λ xs. stepping g s i (map run_of xs)) (part_at rs i r within is)

  pub here : stepping g s i (map run_of (drop i rs)) ≡ one_if (does_move (root_moves g s (run_of r))) (steps i) ++ later
  here = at_place ∙ ap (λ n. one_if (does_move (root_moves g s (run_of r))) (steps i) ++ stepping g s n (map run_of (drop (i + 1) rs))) (sym (add-one i))

  -- a root that moves is counted, and one that does not is passed over
  pub counts : (count : ℕ) → does_move (root_moves g s (run_of r)) ≡ true → counted (count + length (stepping g s i (map run_of (drop i rs)))) ≡ counted (suc count + length later)
  counts count moves = ap (λ ds. counted (count + length ds)) here ∙ one_more (does_move (root_moves g s (run_of r))) (steps i) later count moves

  pub passes : does_move (root_moves g s (run_of r)) ≡ false → stepping g s i (map run_of (drop i rs)) ≡ later
  passes stays = here ∙ not_more (does_move (root_moves g s (run_of r))) (steps i) later stays

  pub is_there : does_move (root_moves g s (run_of r)) ≡ true → slice_get (stepping g s i (map run_of (drop i rs))) 0 ≡ Some (steps i)
  is_there moves = ap (λ ds. slice_get ds 0) here ∙ found_there (does_move (root_moves g s (run_of r))) (steps i) later moves

  pub is_later : (n : ℕ) → does_move (root_moves g s (run_of r)) ≡ true → slice_get (stepping g s i (map run_of (drop i rs))) (suc n) ≡ slice_get later n
  is_later n moves = ap (λ ds. slice_get ds (suc n)) here ∙ found_later (does_move (root_moves g s (run_of r))) (steps i) later n moves

  -- the count and the place go on, past one that moves and past one that stays
  pub more_counted : (count more total : ℕ) → does_move (root_moves g s (run_of r)) ≡ true → more ≡ min (count + 1) (2 ^ 32 - 1) → counted (count + length (stepping g s i (map run_of (drop i rs)))) ≡ total
      → counted (more + length later) ≡ total
  more_counted count more total moves is before = capped count more (length later) is ∙ (sym (counts count moves) ∙ before)

  pub as_counted : (count total : ℕ) → does_move (root_moves g s (run_of r)) ≡ false → counted (count + length (stepping g s i (map run_of (drop i rs)))) ≡ total → counted (count + length later) ≡ total
  as_counted count total stay before = ap (λ (ds : List Deed). counted (count + length ds)) (sym (passes stay)) ∙ before

  pub is_this : (left : ℕ) (at : Option Deed) → does_move (root_moves g s (run_of r)) ≡ true → left ≡ 0 → slice_get (stepping g s i (map run_of (drop i rs))) left ≡ at → Some (steps i) ≡ at
  is_this left at moves none before = sym (is_there moves) ∙ (ap (λ (n : ℕ). slice_get (stepping g s i (map run_of (drop i rs))) n) (sym none) ∙ before)

  pub is_behind : (left less : ℕ) (at : Option Deed) → does_move (root_moves g s (run_of r)) ≡ true → left ≡ suc less → slice_get (stepping g s i (map run_of (drop i rs))) left ≡ at → slice_get later less ≡ at
  is_behind left less at moves some before = sym (is_later less moves) ∙ (ap (λ (n : ℕ). slice_get (stepping g s i (map run_of (drop i rs))) n) (sym some) ∙ before)

  pub is_past : (left : ℕ) (at : Option Deed) → does_move (root_moves g s (run_of r)) ≡ false → slice_get (stepping g s i (map run_of (drop i rs))) left ≡ at → slice_get later left ≡ at
  is_past left at stay before = ap (λ (ds : List Deed). slice_get ds left) (sym (passes stay)) ∙ before

-- at the end
module _ (g : Setting) (s : Side) (rs : List RootRun) (i : ℕ) (end : length rs ≤ i) where
  none_left : stepping g s i (map run_of (drop i rs)) ≡ []
  unfolding stepping
  none_left = ap (λ (qs : List RootRun). stepping g s i (map run_of qs)) (drop_all i rs end)

  pub all_counted : (count total : ℕ) → count ≤ 2 ^ 32 - 1 → counted (count + length (stepping g s i (map run_of (drop i rs)))) ≡ total → count ≡ total
  all_counted count total within before =
      let now : counted (count + 0) ≡ total = ap (λ (ds : List Deed). counted (count + length ds)) (sym none_left) ∙ before in omega (arith, within, now)

  pub none_found : (left : ℕ) (at : Option Deed) → slice_get (stepping g s i (map run_of (drop i rs))) left ≡ at → None ≡ at
  none_found left at before = ap (λ (ds : List Deed). slice_get ds left) (sym none_left) ∙ before
