-- Ways from node to node are ways where the nodes stand in another order, and back.
use Rattle.std.proofs.Common.{◌≡◌, refl, sym, ap, subst, ◌∙◌, ℕ, zero, suc, ◌+◌, ◌<◌, ◌≤◌, inl, inr, List, [], ◌∷◌, ◌++◌, length, get_or, slice_get, Option, None, Some, Contains, arith}
use Rattle.std.proofs.lemmas.Bool.{cases_lt}
use Rattle.std.proofs.lemmas.List.{get_or_append_left, get_or-append-add, get_or-map, get_or_past, length-map, length-append}
use Rattle.std.proofs.lemmas.Option.{slice_get-get_or}
use Rattle.std.specs.List.{cons_option, filter_map}
use Rattle.uno_model.specs.Circles.{Leads, step, on}
use Rattle.uno_model.proofs.PlaceLaws.{at_slice, contains_behind, contains_cases, contains_head}
use Rattle.circle_search.specs.Graph.{targets}
use Rattle.circle_ranks.specs.Order.{AreFirst, below, graph_in_order, renumbered}

-- ---- the numbers below one

pub below_long : (n : ℕ) → length (below n) ≡ n
unfolding below
below_long zero = refl
below_long (suc n) =
    let more = length-append (below n) (n ∷ []) in
    let long = below_long n in
    omega (arith, more, long)

below_at : (n i : ℕ) → i < n → get_or (below n) i 0 ≡ i
unfolding below
below_at zero i low = absurd (omega (arith, low))
below_at (suc n) i low = elim (cases_lt i n) [
  | inl less ↦ get_or_append_left (below n) (n ∷ []) 0 i (let long = below_long n in omega (arith, long, less)) ∙ below_at n i less
  | inr last ↦
      let long = below_long n in
      let same : i ≡ length (below n) + 0 = omega (arith, long, last, low) in
      ap (λ k. get_or (below n ++ n ∷ []) k 0) same ∙ get_or-append-add (below n) (n ∷ []) 0 0 ∙ omega (arith, long, last, low)
]

-- ---- what is picked out of a list

pub picked_one : {X Y : Type 0} (f : X → Option Y) (xs : List X) (y : Y) → Contains (filter_map f xs) y → (x : X) × Contains xs x × (f x ≡ Some y)
picked_one f [] y has = absurd (omega (arith, has.1))
picked_one {X = X} {Y = Y} f (x ∷ xs) y has = by_first (f x) refl has (picked_one f xs y)
  where
    by_rest : (x' : X) × Contains xs x' × (f x' ≡ Some y) → (x' : X) × Contains (x ∷ xs) x' × (f x' ≡ Some y)
    by_rest found = (found.0, contains_behind x xs found.0 found.1, found.2)

    by_first : (o : Option Y) → f x ≡ o → Contains (cons_option o (filter_map f xs)) y → (Contains (filter_map f xs) y → (x' : X) × Contains xs x' × (f x' ≡ Some y))
        → (x' : X) × Contains (x ∷ xs) x' × (f x' ≡ Some y)
    by_first None is has' rest = by_rest (rest has')
    by_first (Some z) is has' rest = elim (contains_cases z (filter_map f xs) y has') [
      | inl here ↦ (x, contains_head x xs, is ∙ ap (λ w. Some w) here)
      | inr behind ↦ by_rest (rest behind)
    ]

pub picks : {X Y : Type 0} (f : X → Option Y) (xs : List X) (x : X) (y : Y) → Contains xs x → f x ≡ Some y → Contains (filter_map f xs) y
picks f [] x y has is = absurd (omega (arith, has.1))
picks {Y = Y} f (z ∷ zs) x y has is = elim (contains_cases z zs x has) [
  | inl here ↦ subst (λ o. Contains (cons_option o (filter_map f zs)) y) (sym (ap f here ∙ is)) (contains_head y (filter_map f zs))
  | inr behind ↦ by_first (f z) (picks f zs x y behind is)
]
  where
    by_first : (o : Option Y) → Contains (filter_map f zs) y → Contains (cons_option o (filter_map f zs)) y
    by_first None has' = has'
    by_first (Some w) has' = contains_behind w (filter_map f zs) y has'

-- ---- where nodes stand

-- a node that leads anywhere is one of the graph
leads_low : (g : List (List ℕ)) (a b : ℕ) → Contains (targets g a) b → a < length g
unfolding targets
leads_low g a b has = elim (cases_lt a (length g)) [
  | inl low ↦ low
  | inr past ↦ let none : Contains [] b = subst (λ (xs : List ℕ). Contains xs b) (get_or_past g a [] past) has in absurd (omega (arith, none.1))
]

module _ (g : List (List ℕ)) (front order numbers : List ℕ) (listed : order ≡ front ++ below (length g)) (first : AreFirst (length g) order numbers) where
  stands : (i : ℕ) → i < length g → (k : ℕ) × (k < length order) × (get_or order k 0 ≡ i)
  stands i low =
      let long = below_long (length g) in
      let whole = length-append front (below (length g)) in
      let all = ap length listed in (
        length front + i,
        omega (arith, long, whole, all, low),
        ap (λ xs. get_or xs (length front + i) 0) listed ∙ get_or-append-add front (below (length g)) i 0 ∙ below_at (length g) i low,
      )

  -- a node stands at its number, and nowhere before
  pub known_at : (i : ℕ) → i < length g → (get_or numbers i 0 < length order) × (get_or order (get_or numbers i 0) 0 ≡ i)
  known_at i low =
      let there = stands i low in
      let known = first.known there.0 there.1 (subst (λ n. n < length g) (sym there.2) low) in
      let before : get_or numbers i 0 ≤ there.0 = subst (λ n. get_or numbers n 0 ≤ there.0) there.2 known.first in (
        omega (arith, before, there.1),
        subst (λ n. get_or order (get_or numbers n 0) 0 ≡ n) there.2 known.same,
      )

  pub known_first : (k i : ℕ) → k < length order → i < length g → get_or order k 0 ≡ i → get_or numbers i 0 ≤ k
  known_first k i within low is = subst (λ n. get_or numbers n 0 ≤ k) is (first.known k within (subst (λ n. n < length g) (sym is) low)).first

  row_is : (k : ℕ) → k < length order → targets (graph_in_order g order numbers) k ≡ renumbered numbers (targets g (get_or order k 0))
  unfolding targets graph_in_order
  row_is k within = get_or-map (λ node. renumbered numbers (get_or g node [])) order k 0 [] within

  row_low : (k j : ℕ) → Contains (targets (graph_in_order g order numbers) k) j → k < length order
  unfolding graph_in_order
  row_low k j has = let low = leads_low (graph_in_order g order numbers) k j has in let long = length-map order (λ node. renumbered numbers (targets g node)) in omega (arith, low, long)

  step_back : (k j : ℕ) → Contains (targets (graph_in_order g order numbers) k) j → Contains (targets g (get_or order k 0)) (get_or order j 0)
  unfolding renumbered
  step_back k j has =
      let found = picked_one (slice_get numbers) (targets g (get_or order k 0)) j (subst (λ (xs : List ℕ). Contains xs j) (row_is k (row_low k j has)) has) in
      let at = at_slice numbers found.0 j 0 found.2 in
      let long = first.long in
      let known = known_at found.0 (omega (arith, at.0, long)) in
      subst (λ t. Contains (targets g (get_or order k 0)) t) (sym (ap (λ n. get_or order n 0) (sym at.1) ∙ known.1)) found.1

  pub way_back : (k j : ℕ) → Leads (targets (graph_in_order g order numbers)) k j → Leads (targets g) (get_or order k 0) (get_or order j 0)
  way_back k j (step a b has) = step (get_or order k 0) (get_or order j 0) (step_back k j has)
  way_back k j (on a c b has rest) = on (get_or order k 0) (get_or order c 0) (get_or order j 0) (step_back k c has) (way_back c j rest)

  step_on : (a b : ℕ) → b < length g → Contains (targets g a) b → Contains (targets (graph_in_order g order numbers) (get_or numbers a 0)) (get_or numbers b 0)
  unfolding renumbered
  step_on a b low has =
      let known = known_at a (leads_low g a b has) in
      let long = first.long in
      let row : targets (graph_in_order g order numbers) (get_or numbers a 0) ≡ renumbered numbers (targets g a) =
      row_is (get_or numbers a 0) known.0 ∙ ap (λ n. renumbered numbers (targets g n)) known.1 in
      subst (λ (xs : List ℕ). Contains xs (get_or numbers b 0)) (sym row)
      (picks (slice_get numbers) (targets g a) b (get_or numbers b 0) has (slice_get-get_or numbers b 0 (omega (arith, low, long))))

  pub way_low : (a b : ℕ) → Leads (targets g) a b → a < length g
  way_low a b (step x y has) = leads_low g a b has
  way_low a b (on x c y has rest) = leads_low g a c has

  pub way_on : (a b : ℕ) → b < length g → Leads (targets g) a b → Leads (targets (graph_in_order g order numbers)) (get_or numbers a 0) (get_or numbers b 0)
  way_on a b low (step x y has) = step (get_or numbers a 0) (get_or numbers b 0) (step_on a b low has)
  way_on a b low (on x c y has rest) = on (get_or numbers a 0) (get_or numbers c 0) (get_or numbers b 0) (step_on a c (way_low c b rest) has) (way_on c b low rest)
