-- The last edge is looked at: what marks and trail say stays so, whatever its target is.
use Rattle.std.proofs.Common.{true, ◌≡◌, ◌≢◌, ℕ, ◌-◌, ◌<◌, ◌≤◌, ◌⊎◌, inl, inr, List, [], ◌∷◌, ◌++◌, length, get_or, set, take, refl, sym, ◌∙◌, ap, arith}
use Rattle.std.proofs.lemmas.Bool.{cases_eq, cases_lt}
use Rattle.std.proofs.lemmas.List.{places, get_or_append_left, get_or_push, length_push}
use Rattle.std.proofs.lemmas.List.Elements.{Contains-push_cases}
use Rattle.uno_model.specs.Circles.{Leads, step, on}
use Rattle.circle_search.specs.declared.mark.Mark.{Mark}
use Rattle.circle_search.specs.declared.mark.Mark.TheVariants.{New, Open, OffCircle}
use Rattle.circle_search.specs.declared.trail.Edge.{Edge}
use Rattle.circle_search.specs.Graph.{targets}
use Rattle.circle_search.specs.Search.{edges, is_left, IsAt, IsNotBefore, IsSeen, GroupsHold, EdgesHold, Fine, IsCut}
use Rattle.circle_search.proofs.Entering.{entered_fine}

-- a way, and another from its end
pub leads_through : {X : Type 0} (next : X → List X) (a b c : X) → Leads next a b → Leads next b c → Leads next a c
leads_through next a b c (step a' b' first) rest = on a b c first rest
leads_through next a b c (on a' x b' first way) rest = on a x c first (leads_through next x b c way rest)

-- no start is behind the last
pub last_start : (g : List (List ℕ)) (nodes starts : List ℕ) (k : ℕ) → GroupsHold g nodes starts → k < length starts
    → get_or starts k 0 ≤ get_or starts (length starts - 1) 0
last_start g nodes starts k f low = let rise = f.rising k (length starts - 1) 0 in grind arith

without_last : (g : List (List ℕ)) (nodes : List ℕ) (w : List Edge) (e : Edge) → EdgesHold g nodes (w ++ e ∷ []) → EdgesHold g nodes w
without_last g nodes w e f = record {
  within = λ k d low. let old = f.within k d in grind (arith, places);
  source = λ k d low. rw (get_or_append_left w (e ∷ []) d k low) at (f.source k d (omega (arith, length_push w e)));
  order = λ i j d low high. let old = f.order i j d in grind (arith, places);
}

-- what was seen to by the edge that is looked at is its target
seen_but : (marks : List Mark) (nodes starts : List ℕ) (w : List Edge) (e : Edge) (p t : ℕ) → IsSeen marks nodes starts (w ++ e ∷ []) p t
    → IsSeen marks nodes starts w p t ⊎ ((e.place ≡ p) × (e.target ≡ t))
seen_but marks nodes starts w e p t (inl left) = inl (inl left)
seen_but marks nodes starts w e p t (inr (inl waits)) = elim (Contains-push_cases w e (record { place = p; target = t }) waits) [
  | inl still ↦ inl (inr (inl still))
  | inr this ↦ inr (ap (λ z. z.place) this, ap (λ z. z.target) this)
]
seen_but marks nodes starts w e p t (inr (inr behind)) = inl (inr (inr behind))

-- each open node leads to the target of an edge of the last group
all_lead : (g : List (List ℕ)) (marks : List Mark) (nodes starts : List ℕ) (w : List Edge) (e : Edge) → Fine g marks nodes starts (w ++ e ∷ [])
    → get_or starts (length starts - 1) 0 ≤ e.place → (i : ℕ) → i < length nodes → Leads (targets g) (get_or nodes i 0) e.target
all_lead g marks nodes starts w e f high i low =
    let from : ℕ = get_or nodes e.place 0 in
    let within : e.place < length nodes = rw (get_or_push w e e (length w) refl) at (f.of_edges.within (length w) e (omega (arith, length_push w e))) in
    let on_it : Leads (targets g) from e.target =
    step from e.target (rw (get_or_push w e e (length w) refl) at (f.of_edges.source (length w) e (omega (arith, length_push w e)))) in
    let on_way = f.of_groups.on i e.place in
    let back = λ (behind : e.place < i). f.of_groups.back e.place i behind low (λ k k-low le. omega (arith, last_start g nodes starts k f.of_groups k-low)) in
    let same : (i ≡ e.place) ⊎ (i ≢ e.place) = cases_eq i e.place in
    grind (arith, leads_through)

-- nothing is done about a target that was left
pub left_fine : (g : List (List ℕ)) (marks : List Mark) (nodes starts : List ℕ) (w : List Edge) (e : Edge) → Fine g marks nodes starts (w ++ e ∷ [])
    → is_left (get_or marks e.target OffCircle) ≡ true → Fine g marks nodes starts w
left_fine g marks nodes starts w e f left = record {
  of_marks = f.of_marks;
  of_groups = f.of_groups;
  of_edges = without_last g nodes w e f.of_edges;
  seen = λ p t low to. elim (seen_but marks nodes starts w e p t (f.seen p t low to)) [ inl still ↦ still | inr this ↦ inl (rw this.1 at left) ];
}

-- a new target is opened
pub new_fine : (g : List (List ℕ)) (marks : List Mark) (nodes starts : List ℕ) (w : List Edge) (e : Edge) → Fine g marks nodes starts (w ++ e ∷ [])
    → get_or starts (length starts - 1) 0 ≤ e.place → get_or marks e.target OffCircle ≡ New
    → Fine g (set marks e.target (Open (length nodes))) (nodes ++ e.target ∷ []) (starts ++ length nodes ∷ []) (w ++ edges (length nodes) (targets g e.target))
new_fine g marks nodes starts w e f high new =
    entered_fine g marks nodes starts w e.target f.of_marks f.of_groups (without_last g nodes w e f.of_edges) new (all_lead g marks nodes starts w e f high)
    (λ p t low to. elim (seen_but marks nodes starts w e p t (f.seen p t low to)) [ inl still ↦ inl still | inr this ↦ inr (sym this.1) ])

-- the groups from that of an open target on are joined
joined_groups : (g : List (List ℕ)) (nodes starts : List ℕ) (count place t : ℕ) → GroupsHold g nodes starts → IsCut place starts count
    → IsAt nodes place t → ((i : ℕ) → i < length nodes → Leads (targets g) (get_or nodes i 0) t) → GroupsHold g nodes (take count starts)
joined_groups g nodes starts count place t f cut at lead = record {
  on = f.on;
  back = λ i j low high same. back_now i j low high same (cases_lt place j);
  first = λ some. let old = f.first some in let out = cut.others 0 in let in' = cut.within in grind (arith, places);
  rising = λ i j d low high. let old = f.rising i j d in let in' = cut.within in grind (arith, places);
  within = λ k low. let old = f.within k in let in' = cut.within in grind (arith, places);
}
  where
    not_before : (i j : ℕ) → IsNotBefore (take count starts) i j → (q : ℕ) → q ≤ place → q ≤ j → IsNotBefore starts i q
    not_before i j same q low high k k-low le = let kept = same k in let out = cut.others k in let in' = cut.within in grind (arith, places)

    back_now : (i j : ℕ) → i < j → j < length nodes → IsNotBefore (take count starts) i j → (place < j) ⊎ (j ≤ place) → Leads (targets g) (get_or nodes j 0) (get_or nodes i 0)
    back_now i j low high same (inr before) = f.back i j low high (not_before i j same j before (omega arith))
    back_now i j low high same (inl behind) =
        let there : Leads (targets g) (get_or nodes j 0) (get_or nodes place 0) = rw at.1 (lead j high) in
        let back = λ (first : i < place). f.back i place first at.0 (not_before i j same place (omega arith) (omega arith)) in
        let on_way = f.on place i in
        grind (arith, leads_through)

pub open_fine : (g : List (List ℕ)) (marks : List Mark) (nodes starts : List ℕ) (w : List Edge) (e : Edge) (place count : ℕ)
    → Fine g marks nodes starts (w ++ e ∷ []) → get_or starts (length starts - 1) 0 ≤ e.place → get_or marks e.target OffCircle ≡ Open place
    → IsCut place starts count → Fine g marks nodes (take count starts) w
open_fine g marks nodes starts w e place count f high is cut =
    let at = f.of_marks.opened e.target place is in
    record {
      of_marks = f.of_marks;
      of_groups = joined_groups g nodes starts count place e.target f.of_groups cut at (all_lead g marks nodes starts w e f high);
      of_edges = without_last g nodes w e f.of_edges;
      seen = λ p t low to. seen_now at p t (seen_but marks nodes starts w e p t (f.seen p t low to));
    }
  where
    seen_now : IsAt nodes place e.target → (p t : ℕ) → IsSeen marks nodes starts w p t ⊎ ((e.place ≡ p) × (e.target ≡ t)) → IsSeen marks nodes (take count starts) w p t
    seen_now at p t (inl (inl left)) = inl left
    seen_now at p t (inl (inr (inl waits))) = inr (inl waits)
    seen_now at p t (inl (inr (inr (q, there, behind)))) = inr (inr (q, there, λ k low le. let old = behind k in let in' = cut.within in grind (arith, places)))
    seen_now at p t (inr this) = inr (inr (place, (at.0, at.1 ∙ this.1), λ k low le. let kept = cut.kept k in let in' = cut.within in grind (arith, places)))
