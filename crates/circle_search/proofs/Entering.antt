-- A new node is opened at the end of the trail: what marks and trail say stays so.
use Rattle.std.proofs.Common.{◌≡◌, ℕ, ◌-◌, ◌<◌, ◌≤◌, ◌⊎◌, inl, inr, List, [], ◌∷◌, ◌++◌, length, get_or, set, refl, sym, ap, ◌∙◌, arith, Contains}
use Rattle.std.proofs.lemmas.Bool.{cases_lt}
use Rattle.std.proofs.lemmas.List.{places, get_or_default, get_or_append_left, get_or-append_right, get_or_push, get_or-map, length-append, get_or-set_same, get_or-set_other, length-map, length-set, length_push}
use Rattle.std.proofs.lemmas.List.Elements.{Contains-get_or, Contains-append_left, Contains-append_right}
use Rattle.uno_model.specs.Circles.{Leads}
use Rattle.circle_search.specs.declared.mark.Mark.{Mark}
use Rattle.circle_search.specs.declared.mark.Mark.TheVariants.{New, Open, OffCircle}
use Rattle.circle_search.specs.declared.trail.Edge.{Edge}
use Rattle.circle_search.specs.Graph.{targets}
use Rattle.circle_search.specs.Search.{edges, IsSeen, MarksHold, GroupsHold, EdgesHold, Fine}

pub known_low : (marks : List Mark) (n : ℕ) → get_or marks n OffCircle ≡ New → n < length marks
known_low marks n is = grind (arith, places)

entered_marks : (g : List (List ℕ)) (marks : List Mark) (nodes : List ℕ) (n : ℕ) → MarksHold g marks nodes → get_or marks n OffCircle ≡ New
    → MarksHold g (set marks n (Open (length nodes))) (nodes ++ n ∷ [])
entered_marks g marks nodes n f new =
    let low = known_low marks n new in
    record {
      long = length-set marks n (Open (length nodes)) ∙ f.long;
      on = λ i at. grind (arith, get_or-set_same, get_or-set_other, f.on);
      off = λ i at. grind (arith, get_or-set_same, get_or-set_other, f.off);
      closed = λ i t left to. let old = f.closed i t in grind (arith, get_or-set_same, get_or-set_other);
      opened = λ i p at. let old = f.opened i p in grind (arith, places, get_or-set_same, get_or-set_other);
      marked = λ i p at. grind (arith, places, get_or-set_same, get_or-set_other, f.marked);
    }

entered_groups : (g : List (List ℕ)) (nodes starts : List ℕ) (n : ℕ) → GroupsHold g nodes starts
    → ((i : ℕ) → i < length nodes → Leads (targets g) (get_or nodes i 0) n) → GroupsHold g (nodes ++ n ∷ []) (starts ++ length nodes ∷ [])
entered_groups g nodes starts n f lead = record {
  on = λ i j low high. grind (arith, places, f.on, lead);
  back = λ i j low high same. let old = f.back i j in let own = same (length starts) in grind (arith, places);
  first = λ some. let old = f.first in grind (arith, places);
  rising = λ i j d low high. let old = f.rising i j d in let before = f.within i in grind (arith, places);
  within = λ k low. grind (arith, places, f.within);
}

edge_at : (place : ℕ) (ts : List ℕ) (k : ℕ) (d : Edge) → k < length ts → get_or (edges place ts) k d ≡ record { place = place; target = get_or ts k 0 }
edge_at place ts k d low = get_or-map (λ t. record { place = place; target = t }) ts k 0 d low

edges_long : (place : ℕ) (ts : List ℕ) → length (edges place ts) ≡ length ts
edges_long place ts = length-map ts (λ t. record { place = place; target = t })

entered_edges : (g : List (List ℕ)) (nodes : List ℕ) (waiting : List Edge) (n : ℕ) → EdgesHold g nodes waiting
    → EdgesHold g (nodes ++ n ∷ []) (waiting ++ edges (length nodes) (targets g n))
entered_edges g nodes waiting n f = record {
  within = λ k d low. let old = f.within k d in let new = edge_at (length nodes) (targets g n) (k - length waiting) d in grind (arith, places, edges_long);
  source = λ k d low. source_now k d low (cases_lt k (length waiting));
  order = λ i j d low high. let old = f.order i j d in let a = f.within i d in
      let b = edge_at (length nodes) (targets g n) (i - length waiting) d in
      let c = edge_at (length nodes) (targets g n) (j - length waiting) d in grind (arith, places, edges_long);
}
  where
    source_now : (k : ℕ) (d : Edge) → k < length (waiting ++ edges (length nodes) (targets g n)) → (k < length waiting) ⊎ (length waiting ≤ k)
        → let e = get_or (waiting ++ edges (length nodes) (targets g n)) k d in Contains (targets g (get_or (nodes ++ n ∷ []) e.place 0)) e.target
    source_now k d low (inl before) =
        rw (get_or_append_left waiting (edges (length nodes) (targets g n)) d k before, get_or_append_left nodes (n ∷ []) 0 (get_or waiting k d).place (f.within k d before)) (f.source k d before)
    source_now k d low (inr after) =
        let within : k - length waiting < length (targets g n) = omega (arith, length-append waiting (edges (length nodes) (targets g n)), edges_long (length nodes) (targets g n)) in
        rw (get_or-append_right waiting (edges (length nodes) (targets g n)) (length waiting) k d refl after, edge_at (length nodes) (targets g n) (k - length waiting) d within, get_or_push nodes n 0 (length nodes) refl)
        (Contains-get_or (targets g n) (k - length waiting) 0 within)

-- an edge to each target waits
own_edge : (place : ℕ) (ts : List ℕ) (t : ℕ) → Contains ts t → Contains (edges place ts) (record { place = place; target = t })
own_edge place ts t (k, low, is) =
    let there = edge_at place ts k (record { place = place; target = t }) low in
    (k, rw edges_long low, there ∙ ap (λ u. record { place = place; target = u }) (get_or_default ts k 0 t low ∙ is))

-- the old edges but those to the node itself are still seen to
seen_still : (marks : List Mark) (nodes starts : List ℕ) (waiting more : List Edge) (n p t : ℕ) → get_or marks n OffCircle ≡ New → p < length nodes
    → IsSeen marks nodes starts waiting p t ⊎ (t ≡ n) → IsSeen (set marks n (Open (length nodes))) (nodes ++ n ∷ []) (starts ++ length nodes ∷ []) (waiting ++ more) p t
seen_still marks nodes starts waiting more n p t new low (inl (inl left)) = let old = known_low marks n new in inl (grind (arith, get_or-set_other))
seen_still marks nodes starts waiting more n p t new low (inl (inr (inl waits))) = inr (inl (Contains-append_left waiting more (record { place = p; target = t }) waits))
seen_still marks nodes starts waiting more n p t new low (inl (inr (inr (q, at, behind)))) = inr (inr (q, grind (arith, places), λ k k-low le. grind (arith, places, behind)))
seen_still marks nodes starts waiting more n p t new low (inr own) = inr (inr (length nodes, grind (arith, places), λ k k-low le. omega (arith)))

pub entered_fine : (g : List (List ℕ)) (marks : List Mark) (nodes starts : List ℕ) (waiting : List Edge) (n : ℕ)
    → MarksHold g marks nodes → GroupsHold g nodes starts → EdgesHold g nodes waiting → get_or marks n OffCircle ≡ New
    → ((i : ℕ) → i < length nodes → Leads (targets g) (get_or nodes i 0) n)
    → ((p t : ℕ) → p < length nodes → Contains (targets g (get_or nodes p 0)) t → IsSeen marks nodes starts waiting p t ⊎ (t ≡ n))
    → Fine g (set marks n (Open (length nodes))) (nodes ++ n ∷ []) (starts ++ length nodes ∷ []) (waiting ++ edges (length nodes) (targets g n))
entered_fine g marks nodes starts waiting n of_marks of_groups of_edges new lead seen = record {
  of_marks = entered_marks g marks nodes n of_marks new;
  of_groups = entered_groups g nodes starts n of_groups lead;
  of_edges = entered_edges g nodes waiting n of_edges;
  seen = λ p t low to. seen_now p t (omega (arith, length_push nodes n)) to (cases_lt p (length nodes));
}
  where
    seen_now : (p t : ℕ) → p ≤ length nodes → Contains (targets g (get_or (nodes ++ n ∷ []) p 0)) t → (p < length nodes) ⊎ (length nodes ≤ p)
        → IsSeen (set marks n (Open (length nodes))) (nodes ++ n ∷ []) (starts ++ length nodes ∷ []) (waiting ++ edges (length nodes) (targets g n)) p t
    seen_now p t high to (inl before) =
        seen_still marks nodes starts waiting (edges (length nodes) (targets g n)) n p t new before (seen p t before (rw (get_or_append_left nodes (n ∷ []) 0 p before) at to))
    seen_now p t high to (inr last) =
        let place : length nodes ≡ p = omega arith in
        let own : Contains (targets g n) t = rw (get_or_push nodes n 0 p place) at to in
        inr (inl (Contains-append_right waiting (edges (length nodes) (targets g n)) (record { place = p; target = t })
        (rw (sym place) (own_edge (length nodes) (targets g n) t own))))
