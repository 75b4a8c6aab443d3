-- Where the search and a trail begin, and what all marks say once the search has ended.
use Rattle.std.proofs.Common.{◌≡◌, ◌≢◌, ℕ, ◌<◌, ◌≤◌, inl, inr, List, [], ◌∷◌, ◌++◌, length, get_or, set, replicate, refl, ap, arith, Contains}
use Rattle.std.proofs.lemmas.Bool.{cases_lt}
use Rattle.std.proofs.lemmas.List.{places, get_or_past, get_or-replicate, get_or-set_same, get_or-set_other, length-replicate}
use Rattle.uno_model.specs.Circles.{Leads, step, on}
use Rattle.circle_search.specs.declared.mark.Mark.{Mark}
use Rattle.circle_search.specs.declared.mark.Mark.TheVariants.{New, Open, OffCircle, OnCircle}
use Rattle.circle_search.specs.declared.trail.Edge.{Edge}
use Rattle.circle_search.specs.declared.trail.Trail.{Trail}
use Rattle.circle_search.specs.Graph.{targets}
use Rattle.circle_search.specs.Search.{edges, MarksHold, MarksAreRight, Fine, IsFine}
use Rattle.circle_search.proofs.Entering.{known_low, entered_fine}

-- what is no node leads nowhere
past_contains : (g : List (List ℕ)) (n t : ℕ) → length g ≤ n → ¬ Contains (targets g n) t
unfolding targets
past_contains g n t past (k, low, is) = let none = get_or_past g n [] past in omega (arith, ap length none)

past_leads : (g : List (List ℕ)) (a c : ℕ) → length g ≤ a → ¬ Leads (targets g) a c
past_leads g a c past (step a' c' to) = past_contains g a c past to
past_leads g a c past (on a' b c' to rest) = past_contains g a b past to

first_marks : (g : List (List ℕ)) → MarksHold g (replicate (length g) New) []
first_marks g = record {
  long = length-replicate (length g) New;
  on = λ i at. grind (arith, places, get_or-replicate);
  off = λ i at. let past = past_leads g i i in grind (arith, places, get_or-replicate);
  closed = λ i t left to. let past = past_contains g i t in grind (arith, places, get_or-replicate);
  opened = λ i p at. grind (arith, places, get_or-replicate);
  marked = λ i p at. grind arith;
}

pub first_fine : (g : List (List ℕ)) (marks : List Mark) (nodes starts : List ℕ) (waiting : List Edge) → marks ≡ replicate (length g) New → nodes ≡ [] → starts ≡ []
    → waiting ≡ [] → Fine g marks nodes starts waiting
first_fine g marks nodes starts waiting new no-nodes no-starts no-edges = rw (new, no-nodes, no-starts, no-edges) (record {
  of_marks = first_marks g;
  of_groups = grind arith;
  of_edges = grind arith;
  seen = λ p t low to. grind arith;
})

-- the first node of a trail is opened
pub root_fine : (g : List (List ℕ)) (marks : List Mark) (nodes starts : List ℕ) (waiting : List Edge) (n : ℕ) → Fine g marks nodes starts waiting → nodes ≡ []
    → get_or marks n OffCircle ≡ New
    → Fine g (set marks n (Open (length nodes))) (nodes ++ n ∷ []) (starts ++ length nodes ∷ []) (waiting ++ edges (length nodes) (targets g n))
root_fine g marks nodes starts waiting n f none new =
    let no-place : (i : ℕ) → i < length nodes → ⊥ = λ i low. omega (arith, ap length none) in
    entered_fine g marks nodes starts waiting n f.of_marks f.of_groups f.of_edges new (λ i low. absurd (no-place i low)) (λ p t low to. absurd (no-place p low))

pub entered_kept : (marks : List Mark) (n place i : ℕ) → get_or marks n OffCircle ≡ New → get_or (set marks n (Open place)) i OffCircle ≡ New
    → (i ≢ n) × (get_or marks i OffCircle ≡ New)
entered_kept marks n place i new at = let low = known_low marks n new in grind (arith, get_or-set_same, get_or-set_other)

-- once each node was reached and none is open, all marks are right
pub marks_are_right : (g : List (List ℕ)) (trail : Trail) → IsFine g trail → trail.nodes.items ≡ [] → ((i : ℕ) → i < length g → get_or trail.marks.items i OffCircle ≢ New)
    → MarksAreRight g trail.marks.items
marks_are_right g trail f none reached = record {
  long = f.of_marks.long;
  on = f.of_marks.on;
  off = λ i other. off_now i (get_or trail.marks.items i OffCircle) refl other;
}
  where
    off_now : (i : ℕ) (m : Mark) → get_or trail.marks.items i OffCircle ≡ m → get_or trail.marks.items i OffCircle ≢ OnCircle → ¬ Leads (targets g) i i
    off_now i New is other = elim (cases_lt i (length g)) [ inl low ↦ absurd (reached i low is) | inr past ↦ past_leads g i i past ]
    off_now i (Open p) is other = let at = f.of_marks.opened i p is in let bad : ⊥ = omega (arith, ap length none, at.0) in absurd bad
    off_now i OffCircle is other = f.of_marks.off i is
    off_now i OnCircle is other = absurd (other is)
