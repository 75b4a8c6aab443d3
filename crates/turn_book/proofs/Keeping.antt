-- What the rule says beside a step.
use Rattle.std.proofs.Common.{◌≡◌, ◌≢◌, ℕ, zero, suc, ◌+◌, ◌<◌, ◌≤◌, List, [], ◌∷◌, length, get_or, set, Option, Some, sym, refl, ap, ◌∙◌, subst, ⊎_elim, arith}
use mathlib.Core.Option.{some, none}
use mathlib.Core.Option as maybe
use lib.ListN.{get_elem?}
use Rattle.atomic_table.specs.Table.{State}
use Rattle.atomic_table.proofs.Lists.{set_again}
use Rattle.turn_book.specs.declared.view.View.{View}
use Rattle.turn_book.specs.declared.view.Stage.{Stage}
use Rattle.turn_book.specs.declared.view.Stage.TheVariants.{Waits}
use Rattle.turn_book.specs.History.{Stands, Whole, AllBelow, below, times, numbers_of}
use Rattle.turn_book.specs.Views.{view}
use Rattle.turn_book.specs.Steps.{spent}
use Rattle.turn_book.specs.Ruled.{total, counts, beside, room_of, share, has_number, turns, Lies, Ruled}
use Rattle.turn_book.proofs.Totals.{total_at, total_two, none_else}
use Rattle.turn_book.proofs.Counts.{below_le, below_is}
use Rattle.turn_book.proofs.Marks.{no_number, no_room}

pub set_found : (ws : List ℕ) (i : ℕ) → set ws i (get_or ws i 0) ≡ ws
set_found [] i = refl
set_found (x ∷ xs) zero = refl
set_found (x ∷ xs) (suc i) = ap (λ (l : List ℕ). x ∷ l) (set_found xs i)

-- the weight of two stages that count for the same
pub weighs_same : {I : Type 0} (own : List (ℕ × List I)) (a b : Stage) → beside a ≡ beside b → counts own a ≡ counts own b
weighs_same [] a b e = refl
weighs_same (p ∷ ps) a b e = ap (λ (k : ℕ). 1 + k) e

module _ {B I F : Type 0} (items : B → List I) (fixed : B → F) (key : F) where
  abbrev R : State (Option B) (View I F) → Type 0
  R = Ruled items fixed key

  -- a load that changes no view
  pub still : (s : State (Option B) (View I F)) → R s → (i id : ℕ) (v : View I F) → get_elem? s.views id ≡ some v
      → R record { words = set s.words i (get_or s.words i 0); homes = s.homes; views = set s.views id v }
  still s r i id v at =
      subst (λ (ws : List ℕ). R record { words = ws; homes = s.homes; views = set s.views id v }) (sym (set_found s.words i))
      (subst (λ (vs : List (View I F)). R record { words = s.words; homes = s.homes; views = vs }) (sym (set_again s.views id v at)) r)

  pub one_turn_at_most : (log : List I) (k : ℕ) (homes : List (maybe.Option (Option B))) → Lies items fixed key log k homes → k ≤ 1
  one_turn_at_most log k homes = ⊎_elim
      (λ (x : (b : B) × (homes ≡ some (Some b) ∷ []) × (items b ≡ log) × (fixed b ≡ key) × (k ≡ 0)). let e : k ≡ 0 = x.4 in omega arith)
      (λ (x : (homes ≡ none ∷ []) × (k ≡ 1)). let e : k ≡ 1 = x.1 in omega arith)

  module _ (s : State (Option B) (View I F)) (r : R s) (id : ℕ) (v : View I F) (at : get_elem? s.views id ≡ some v) where
    -- no number is kept twice
    pub once : (n : ℕ) → has_number n v ≤ 1
    once n =
        let a : has_number n v ≤ total (has_number n) s.views = total_at (has_number n) s.views id v at in
        let b : total (has_number n) s.views ≡ below n r.made = r.numbers n in
        let c : below n r.made ≤ 1 = below_le n r.made in
        omega arith

    -- a number that is kept is one that was given
    pub given : (n : ℕ) → 1 ≤ has_number n v → n < r.made
    given n h =
        let a : has_number n v ≤ total (has_number n) s.views = total_at (has_number n) s.views id v at in
        let b : total (has_number n) s.views ≡ below n r.made = r.numbers n in
        let c : 1 ≤ below n r.made = omega arith in
        below_is n r.made c

    -- no other view has it
    pub not_others : (n : ℕ) → 1 ≤ has_number n v → (j : ℕ) (u : View I F) → j ≢ id → get_elem? s.views j ≡ some u → has_number n u ≡ 0
    not_others n h j u apart there =
        let a : has_number n v + has_number n u ≤ total (has_number n) s.views = total_two (has_number n) s.views id j v u apart at there in
        let b : total (has_number n) s.views ≡ below n r.made = r.numbers n in
        let c : below n r.made ≤ 1 = below_le n r.made in
        omega arith

    -- nobody else has the turn
    pub alone_in_turn : turns v ≡ 1 → (j : ℕ) (u : View I F) → j ≢ id → get_elem? s.views j ≡ some u → turns u ≡ 0
    alone_in_turn h j u apart there =
        let a : turns v + turns u ≤ total turns s.views = total_two turns s.views id j v u apart at there in
        let b : total turns s.views ≤ 1 = one_turn_at_most r.log (total turns s.views) s.homes r.book in
        omega arith

    -- who has all rooms and numbers: nobody else has any
    pub only : share v ≡ 65537 → (g : View I F → ℕ) → g spent ≡ 0 → ((u : View I F) → share u ≡ 0 → g u ≡ 0) → total g s.views ≡ g v
    only all g z h = none_else share g s.views id v spent at refl z (λ j u _ e. h u e) (r.shares ∙ sym all)

  -- the own items of a view that waits stand in the history
  pub stands : (s : State (Option B) (View I F)) (r : R s) (id : ℕ) (f : Option F) (sn : List I) (ow : List (ℕ × List I)) (rm t : ℕ) → get_elem? s.views id ≡ some (view f sn ow rm (Waits t)) → Stands r.log ow
  stands s r id f sn ow rm t at = let v : View I F = view f sn ow rm (Waits t) in record {
    makers = r.makers;
    one_each = r.one_each;
    once = λ n. (let a : times n (numbers_of ow) + 0 ≤ 1 = once s r id v at n in omega arith);
    made = (r.fits id v at).made;
  }

  -- and are all of it, where it has all rooms and numbers
  pub whole : (s : State (Option B) (View I F)) (r : R s) (id : ℕ) (f : Option F) (sn : List I) (ow : List (ℕ × List I)) (rm t : ℕ) → get_elem? s.views id ≡ some (view f sn ow rm (Waits t)) → rm + length ow ≡ 65537 → Whole r.log ow
  whole s r id f sn ow rm t at has_all =
      let v : View I F = view f sn ow rm (Waits t) in
      let all : rm + (length ow + 0) ≡ 65537 = omega arith in
      let room : total room_of s.views ≡ rm = only s r id v at all room_of refl no_room in
      let rooms : total room_of s.views + r.made ≡ 65537 = r.rooms in
      let made : r.made ≡ length ow = omega arith in
      record {
        makers = r.makers;
        one_each = r.one_each;
        all = λ n. (let e : total (has_number n) s.views ≡ times n (numbers_of ow) + 0 = only s r id v at all (has_number n) refl (no_number n) in
            let k : total (has_number n) s.views ≡ below n r.made = r.numbers n in
            let m : below n r.made ≡ below n (length ow) = ap (below n) made in
            omega arith);
        made = (r.fits id v at).made;
        of_all = subst (λ (k : ℕ). AllBelow k r.makers) made r.of_all;
      }
