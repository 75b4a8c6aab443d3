-- Each move leaves less to do.
use Rattle.std.proofs.Common.{◌≡◌, ℕ, zero, suc, ◌+◌, ◌<◌, ◌≤◌, List, [], ◌∷◌, ◌++◌, length, get_or, set, refl, arith}
use Rattle.std.proofs.lemmas.List.{length-append, length-map, length_push}
use Rattle.circle_search.specs.declared.mark.Mark.{Mark}
use Rattle.circle_search.specs.declared.mark.Mark.TheVariants.{New, Open, OffCircle, OnCircle}
use Rattle.circle_search.specs.declared.trail.Edge.{Edge}
use Rattle.circle_search.specs.Graph.{targets}
use Rattle.circle_search.specs.Search.{edges, StayReached, mark_work, new_work}

-- where no node becomes new, there is no more to do for new ones
pub kept_work : (g : List (List ℕ)) (marks after : List Mark) → length after ≡ length marks → StayReached marks after → new_work g after ≤ new_work g marks
unfolding new_work
kept_work [] marks after long kept = omega arith
kept_work (row ∷ g) marks [] long kept = omega arith
kept_work (row ∷ g) [] (n ∷ after) long kept = let bad : ⊥ = omega arith in absurd bad
kept_work (row ∷ g) (m ∷ marks) (n ∷ after) long kept =
    let rest = kept_work g marks after (omega arith) (λ i is. kept (suc i) is) in
    let here : mark_work row n ≤ mark_work row m = one row m n (kept 0) in
    omega arith
  where
    one : (row : List ℕ) (m n : Mark) → (n ≡ New → m ≡ New) → mark_work row n ≤ mark_work row m
    one row m New new = rw (new refl) (omega arith)
    one row m (Open place) new = omega arith
    one row m OffCircle new = omega arith
    one row m OnCircle new = omega arith

-- a new node that is opened takes its part of the work
pub entered_work : (g : List (List ℕ)) (marks : List Mark) (n place : ℕ) → length marks ≡ length g → get_or marks n OffCircle ≡ New
    → new_work g (set marks n (Open place)) + (length (targets g n) + 1) ≡ new_work g marks
unfolding new_work targets
entered_work [] [] n place long is = let bad : ⊥ = cc in absurd bad
entered_work [] (m ∷ marks) n place long is = let bad : ⊥ = omega arith in absurd bad
entered_work (row ∷ g) [] n place long is = let bad : ⊥ = omega arith in absurd bad
entered_work (row ∷ g) (m ∷ marks) zero place long is = rw is (omega arith)
entered_work (row ∷ g) (m ∷ marks) (suc n) place long is = let rest = entered_work g marks n place (omega arith) is in omega arith

pub enter_less : (g : List (List ℕ)) (marks : List Mark) (nodes : List ℕ) (w : List Edge) (e : Edge) (n : ℕ) → length marks ≡ length g → get_or marks n OffCircle ≡ New
    → length (w ++ edges (length nodes) (targets g n)) + length (nodes ++ n ∷ []) + new_work g (set marks n (Open (length nodes))) < length (w ++ e ∷ []) + length nodes + new_work g marks
enter_less g marks nodes w e n long new =
    let more : length (edges (length nodes) (targets g n)) ≡ length (targets g n) = length-map (targets g n) _ in
    omega (arith, length-append w (edges (length nodes) (targets g n)), more, length_push nodes n, length_push w e, entered_work g marks n (length nodes) long new)
