-- What single steps do to lists: the last of a list, marks that are given, edges that come late.
use Rattle.std.proofs.Common.{Some, All, ◌≡◌, ℕ, ◌+◌, ◌-◌, ◌<◌, ◌≤◌, List, length, get_or, set, take, ◌∙◌, arith}
use Rattle.std.specs.List.{AllPairs, slice_get}
use Rattle.std.proofs.lemmas.Bool.{cases_eq}
use Rattle.std.proofs.lemmas.Option.{get_or_from_slice_get}
use Rattle.std.proofs.lemmas.List.{places, get_or_default, get_or-set_same, get_or-set_other, length-set}
use Rattle.circle_search.specs.declared.mark.Mark.{Mark}
use Rattle.circle_search.specs.declared.trail.Edge.{Edge}
use Rattle.circle_search.specs.Search.{IsMarked, MarksHold}

-- where the last edge is from before a place, all are
pub all_before : (w : List Edge) (e : Edge) (start : ℕ) → AllPairs (λ a b. a.place ≤ b.place) w → slice_get w (length w - 1) ≡ Some e → e.place < start
    → All (λ x. x.place < start) w
all_before w e start order last early k d low = let rise = order k (length w - 1) d in let end = get_or_from_slice_get w (length w - 1) e d last in grind arith

-- what is open has a mark
pub open_low : (g : List (List ℕ)) (marks : List Mark) (nodes : List ℕ) → MarksHold g marks nodes → All (λ n. n < length marks) nodes
open_low g marks nodes f k d low = let is = f.marked (get_or nodes k d) k (low, get_or_default nodes k 0 d low) in grind (arith, places)

-- one more node gets the mark
pub marked_more : (nodes : List ℕ) (m : Mark) (before marks : List Mark) (k : ℕ) → k < length nodes → get_or nodes k 0 < length before
    → IsMarked (take k nodes) m before marks → IsMarked (take (k + 1) nodes) m before (set marks (get_or nodes k 0) m)
marked_more nodes m before marks k low within w = record {
  long = length-set marks (get_or nodes k 0) m ∙ w.long;
  these = λ q q-low. let old = w.these q in let long = w.long in let same = cases_eq (get_or nodes q 0) (get_or nodes k 0) in grind (arith, places, get_or-set_same, get_or-set_other);
  others = λ i out.
      let old = w.others i (λ q q-low is. let other = out q in grind (arith, places)) in
      let here = out k in grind (arith, places, get_or-set_other);
}
