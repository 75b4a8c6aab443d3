-- One step of a walk: what is said of it stays so, and less is left to do.
use Rattle.std.proofs.Common.{◌≡◌, refl, sym, ap, subst, ◌∙◌, ℕ, zero, suc, ◌+◌, ◌<◌, ◌≤◌, Bool, true, false, not, List, [], ◌∷◌, ◌++◌, length, take, get_or, slice_get, set, replicate, Option, None, Some, ◌⊎◌, inl, inr, Contains, arith}
use Rattle.std.proofs.lemmas.Bool.{cases_lt, cases_eq}
use Rattle.std.proofs.lemmas.List.{get_or_default, get_or-set_same, get_or-set_other, get_or_push, get_or_append_left, get_or_past, length-set, length-replicate, length_push, take-append-le}
use Rattle.std.proofs.lemmas.List.Elements.{Contains-append_left, Contains-append_right}
use Rattle.std.proofs.lemmas.Option.{slice_get_within, get_or_from_slice_get, slice_get-get_or}
use Rattle.std.proofs.Math.Seq.{take-append_seam}
use Rattle.uno_model.specs.Circles.{Leads, step, on}
use Rattle.circle_search.specs.Graph.{targets}
use Rattle.graph_order.specs.Order.{StandBehind, EndsFirst}
use Rattle.graph_order.specs.Walk.{Enters, Fine, IsFine, IsFineWith, Looked, StayReached, Ways, fresh, fresh_work, first_step, is_new, is_reached, reached_with, step_work, way_with, way_work, work, work_with}
use Rattle.graph_order.specs.declared.walk.Step.{Step}
use Rattle.graph_order.specs.declared.walk.Walk.{Walk}

-- ---- nodes that are reached

not_both : (b : Bool) → b ≡ true → b ≡ false → ⊥
not_both b is other = cc

false_of_not : (b : Bool) → not b ≡ true → b ≡ false
false_of_not true is = sym is
false_of_not false is = refl

true_of_not : (b : Bool) → not b ≡ false → b ≡ true
true_of_not true is = refl
true_of_not false is = sym is

new_low : (reached : List Bool) (n : ℕ) → is_new reached n ≡ true → n < length reached
new_low reached n new = by_order (cases_lt n (length reached))
  where
    by_order : (n < length reached) ⊎ (length reached ≤ n) → n < length reached
    by_order (inl low) = low
    by_order (inr high) = absurd (not_both true refl (sym (get_or_past reached n true high) ∙ false_of_not (get_or reached n true) new))

old_reached : (reached : List Bool) (n : ℕ) → is_new reached n ≡ false → n < length reached → is_reached reached n ≡ true
old_reached reached n old low = get_or_default reached n false true low ∙ true_of_not (get_or reached n true) old

pub stay : (b : Bool) (reached : List Bool) (n : ℕ) → is_new reached n ≡ b → StayReached reached (reached_with b reached n)
stay false reached n is node on' = on'
stay true reached n is node on' = by_same (cases_eq node n)
  where
    by_same : (node ≡ n) ⊎ (node ≡ n → ⊥) → is_reached (set reached n true) node ≡ true
    by_same (inl same) = ap (is_reached (set reached n true)) same ∙ get_or-set_same reached n true false (new_low reached n is)
    by_same (inr other) = get_or-set_other reached n node true false other ∙ on'

-- a node that was passed by or entered is reached
pub now_reached : (b : Bool) (reached : List Bool) (n : ℕ) → is_new reached n ≡ b → n < length reached → is_reached (reached_with b reached n) n ≡ true
now_reached false reached n is low = old_reached reached n is low
now_reached true reached n is low = get_or-set_same reached n true false low

fresh_less : (reached : List Bool) (n : ℕ) → is_new reached n ≡ true → fresh reached ≡ suc (fresh (set reached n true))
unfolding fresh
fresh_less [] n new = let bad : ⊥ = cc in absurd bad
fresh_less (true ∷ reached) zero new = let bad : ⊥ = cc in absurd bad
fresh_less (false ∷ reached) zero new = refl
fresh_less (true ∷ reached) (suc n) new = fresh_less reached n new
fresh_less (false ∷ reached) (suc n) new = ap suc (fresh_less reached n new)

-- ---- the beginning

none_fresh : (n : ℕ) → fresh (replicate n false) ≡ n
unfolding fresh
none_fresh zero = refl
none_fresh (suc n) = ap suc (none_fresh n)

none_reached : (n node : ℕ) → is_reached (replicate n false) node ≡ false
none_reached zero node = refl
none_reached (suc n) zero = refl
none_reached (suc n) (suc node) = none_reached n node

pub first_fine : (g : List (List ℕ)) (reached : List Bool) (way : List Step) (order : List ℕ) → reached ≡ replicate (length g) false → way ≡ [] → order ≡ [] → Fine g reached way order
first_fine g reached way order all empty none =
    subst (λ r. Fine g r way order) (sym all) (subst (λ w. Fine g (replicate (length g) false) w order) (sym empty) (subst (λ o. Fine g (replicate (length g) false) [] o) (sym none) (record {
      ways = record {
        long = length-replicate (length g) false;
        on = λ i j d low high. absurd (omega (arith, high));
        known = λ node is. absurd (not_both (is_reached (replicate (length g) false) node) is (none_reached (length g) node));
        behind = λ i t low. absurd (omega (arith, low));
        count = let all_fresh = none_fresh (length g) in omega (arith, all_fresh);
      };
      looked = λ k d j t low. absurd (omega (arith, low));
    })))

-- ---- a node is entered

-- all nodes of a way lead to this one
abbrev pub LeadTo : List (List ℕ) → List Step → ℕ → Type 0
LeadTo g way n = (k : ℕ) (d : Step) → k < length way → Leads (targets g) (get_or way k d).node n

module _ (g : List (List ℕ)) (reached : List Bool) (way : List Step) (order : List ℕ) (n : ℕ) (ways : Ways g reached way order) (lead : LeadTo g way n) (new : is_new reached n ≡ true) where
  old_known : (node : ℕ) → Contains order node ⊎ ((k : ℕ) × (k < length way) × ((d : Step) → (get_or way k d).node ≡ node))
      → Contains order node ⊎ ((k : ℕ) × (k < length (way ++ first_step n ∷ [])) × ((d : Step) → (get_or (way ++ first_step n ∷ []) k d).node ≡ node))
  old_known node (inl left) = inl left
  old_known node (inr (k, low, at)) =
      inr (k, (let long = length_push way (first_step n) in omega (arith, long, low)), λ d. ap (λ (s : Step). s.node) (get_or_append_left way (first_step n ∷ []) d k low) ∙ at d)

  entered_known : (node : ℕ) → is_reached (set reached n true) node ≡ true → (node ≡ n) ⊎ (node ≡ n → ⊥)
      → Contains order node ⊎ ((k : ℕ) × (k < length (way ++ first_step n ∷ [])) × ((d : Step) → (get_or (way ++ first_step n ∷ []) k d).node ≡ node))
  entered_known node is (inl same) =
      inr (length way, (let long = length_push way (first_step n) in omega (arith, long)), λ d. ap (λ (s : Step). s.node) (get_or_push way (first_step n) d (length way) refl) ∙ sym same)
  entered_known node is (inr other) = old_known node (ways.known node (sym (get_or-set_other reached n node true false other) ∙ is))

  entered_on : (i j : ℕ) (d : Step) → i < j → j < length (way ++ first_step n ∷ []) → (j < length way) ⊎ (length way ≤ j)
      → Leads (targets g) (get_or (way ++ first_step n ∷ []) i d).node (get_or (way ++ first_step n ∷ []) j d).node
  entered_on i j d low high (inl old) =
      rw (get_or_append_left way (first_step n ∷ []) d i (omega (arith, low, old)), get_or_append_left way (first_step n ∷ []) d j old) (ways.on i j d low old)
  entered_on i j d low high (inr last) =
      let long = length_push way (first_step n) in
      let here : length way ≡ j = omega (arith, long, high, last) in
      let before : i < length way = omega (arith, here, low) in
      rw (get_or_append_left way (first_step n ∷ []) d i before, get_or_push way (first_step n) d j here) (lead i d before)

  entered_ways : Ways g (set reached n true) (way ++ first_step n ∷ []) order
  entered_ways = record {
    long = length-set reached n true ∙ ways.long;
    on = λ i j d low high. entered_on i j d low high (cases_lt j (length way));
    known = λ node is. entered_known node is (cases_eq node n);
    behind = ways.behind;
    count = let less = fresh_less reached n new in let all = ways.count in let long = length_push way (first_step n) in omega (arith, less, all, long);
  }

entered : (g : List (List ℕ)) (reached : List Bool) (way : List Step) (order : List ℕ) (n : ℕ) → Ways g reached way order → LeadTo g way n → (b : Bool) → is_new reached n ≡ b
    → Ways g (reached_with b reached n) (way_with b way n) order
entered g reached way order n ways lead false is = ways
entered g reached way order n ways lead true is = entered_ways g reached way order n ways lead is

-- ---- what was looked at

looked_still : (g : List (List ℕ)) (old new : List Bool) (way : List Step) → StayReached old new → Looked g old way → Looked g new way
looked_still g old new way stays looked k d j t low before at in' = stays t (looked k d j t low before at in')

looked_with : (g : List (List ℕ)) (reached : List Bool) (way : List Step) (n : ℕ) → Looked g reached way → Looked g reached (way ++ first_step n ∷ [])
looked_with g reached way n looked k d j t low before at in' = by_order (cases_lt k (length way))
  where
    by_order : (k < length way) ⊎ (length way ≤ k) → is_reached reached t ≡ true
    by_order (inl old) =
        let same = get_or_append_left way (first_step n ∷ []) d k old in
        looked k d j t old (subst (λ (s : Step). j < s.looked_at) same before) (subst (λ (s : Step). slice_get (targets g s.node) j ≡ Some t) same at) in'
    by_order (inr last) =
        let long = length_push way (first_step n) in
        let here : length way ≡ k = omega (arith, long, low, last) in
        let none : j < 0 = subst (λ (s : Step). j < s.looked_at) (get_or_push way (first_step n) d k here) before in
        absurd (omega (arith, none))

looked_first : (g : List (List ℕ)) (reached : List Bool) (way : List Step) (n : ℕ) → Looked g reached way → (b : Bool) → Looked g reached (way_with b way n)
looked_first g reached way n looked false = looked
looked_first g reached way n looked true = looked_with g reached way n looked

-- ---- one more target of a node was looked at

abbrev pub looked_more : Step → Step
looked_more s = record { node = s.node; looked_at = s.looked_at + 1 }

none_or_some : {X : Type 0} {x : X} → None ≡ Some x → ⊥
none_or_some is = cc

same_found : (o : Option ℕ) (a b : ℕ) → o ≡ Some a → o ≡ Some b → a ≡ b
same_found o a b is too = cc

module _ (g : List (List ℕ)) (reached : List Bool) (order : List ℕ) (w : List Step) (s : Step) where
  same_node : (k : ℕ) (d : Step) → (k < length w) ⊎ (length w ≤ k) → (length w ≡ k) ⊎ (length w ≡ k → ⊥) → (get_or (w ++ looked_more s ∷ []) k d).node ≡ (get_or (w ++ s ∷ []) k d).node
  same_node k d (inl low) here = ap (λ (x : Step). x.node) (get_or_append_left w (looked_more s ∷ []) d k low ∙ sym (get_or_append_left w (s ∷ []) d k low))
  same_node k d (inr high) (inl here) = ap (λ (x : Step). x.node) (get_or_push w (looked_more s) d k here) ∙ ap (λ (x : Step). x.node) (sym (get_or_push w s d k here))
  same_node k d (inr high) (inr other) =
      let long = length_push w s in
      let too = length_push w (looked_more s) in
      let past : length w < k = omega (arith, high, other) in
      ap (λ (x : Step). x.node) (get_or_past (w ++ looked_more s ∷ []) k d (omega (arith, too, past)) ∙ sym (get_or_past (w ++ s ∷ []) k d (omega (arith, long, past))))

  node_at : (k : ℕ) (d : Step) → (get_or (w ++ looked_more s ∷ []) k d).node ≡ (get_or (w ++ s ∷ []) k d).node
  node_at k d = same_node k d (cases_lt k (length w)) (cases_eq (length w) k)

  as_long : (k : ℕ) → k < length (w ++ looked_more s ∷ []) → k < length (w ++ s ∷ [])
  as_long k low = let one = length_push w s in let other = length_push w (looked_more s) in omega (arith, low, one, other)

  still : (node : ℕ) → Contains order node ⊎ ((k : ℕ) × (k < length (w ++ s ∷ [])) × ((d : Step) → (get_or (w ++ s ∷ []) k d).node ≡ node))
      → Contains order node ⊎ ((k : ℕ) × (k < length (w ++ looked_more s ∷ [])) × ((d : Step) → (get_or (w ++ looked_more s ∷ []) k d).node ≡ node))
  still node (inl left) = inl left
  still node (inr (k, low, there)) =
      inr (k, (let one = length_push w s in let other = length_push w (looked_more s) in omega (arith, low, one, other)), λ d. node_at k d ∙ there d)

  recounted_ways : Ways g reached (w ++ s ∷ []) order → Ways g reached (w ++ looked_more s ∷ []) order
  recounted_ways ways = record {
    long = ways.long;
    on = λ i j d low high. subst (λ n. Leads (targets g) n (get_or (w ++ looked_more s ∷ []) j d).node) (sym (node_at i d))
        (subst (λ n. Leads (targets g) (get_or (w ++ s ∷ []) i d).node n) (sym (node_at j d)) (ways.on i j d low (as_long j high)));
    known = λ node is. still node (ways.known node is);
    behind = ways.behind;
    count = let all = ways.count in let one = length_push w s in let other = length_push w (looked_more s) in omega (arith, all, one, other);
  }

  module _ (looked : Looked g reached (w ++ s ∷ [])) (t : ℕ) (at : slice_get (targets g s.node) s.looked_at ≡ Some t) (now : t < length g → is_reached reached t ≡ true) where
    by_place : (k : ℕ) (d : Step) (j u : ℕ) → k < length (w ++ looked_more s ∷ []) → j < (get_or (w ++ looked_more s ∷ []) k d).looked_at
        → slice_get (targets g (get_or (w ++ looked_more s ∷ []) k d).node) j ≡ Some u → u < length g → (k < length w) ⊎ (length w ≤ k) → (j < s.looked_at) ⊎ (s.looked_at ≤ j) → is_reached reached u ≡ true
    by_place k d j u low before there in' (inl old) other =
        let same : get_or (w ++ looked_more s ∷ []) k d ≡ get_or (w ++ s ∷ []) k d = get_or_append_left w (looked_more s ∷ []) d k old ∙ sym (get_or_append_left w (s ∷ []) d k old) in
        looked k d j u (as_long k low) (subst (λ (x : Step). j < x.looked_at) same before) (subst (λ (x : Step). slice_get (targets g x.node) j ≡ Some u) same there) in'
    by_place k d j u low before there in' (inr last) (inl old) =
        let long = length_push w (looked_more s) in
        let here : length w ≡ k = omega (arith, long, low, last) in
        let is = get_or_push w s d k here in
        let was = get_or_push w (looked_more s) d k here in
        looked k d j u (as_long k low) (subst (λ (x : Step). j < x.looked_at) (sym is) old)
        (subst (λ (x : Step). slice_get (targets g x.node) j ≡ Some u) (sym is) (subst (λ (x : Step). slice_get (targets g x.node) j ≡ Some u) was there)) in'
    by_place k d j u low before there in' (inr last) (inr end) =
        let long = length_push w (looked_more s) in
        let here : length w ≡ k = omega (arith, long, low, last) in
        let was = get_or_push w (looked_more s) d k here in
        let most : j < s.looked_at + 1 = subst (λ (x : Step). j < x.looked_at) was before in
        let same : j ≡ s.looked_at = omega (arith, most, end) in
        let found : slice_get (targets g s.node) j ≡ Some u = subst (λ (x : Step). slice_get (targets g x.node) j ≡ Some u) was there in
        let one : t ≡ u = same_found (slice_get (targets g s.node) s.looked_at) t u at (ap (slice_get (targets g s.node)) (sym same) ∙ found) in
        ap (is_reached reached) (sym one) ∙ now (subst (λ n. n < length g) (sym one) in')

    recounted_looked : Looked g reached (w ++ looked_more s ∷ [])
    recounted_looked k d j u low before there in' = by_place k d j u low before there in' (cases_lt k (length w)) (cases_lt j s.looked_at)

-- all on a way to a node lead to its target
lead_on : (next : ℕ → List ℕ) (a b c : ℕ) → Leads next a b → Contains (next b) c → Leads next a c
lead_on next a b c (step a' b' in') to = on a b c in' (step b c to)
lead_on next a b c (on a' x b' in' rest) to = on a x c in' (lead_on next x b c rest to)

past_end : (xs : List ℕ) (i : ℕ) → slice_get xs i ≡ None → length xs ≤ i
past_end xs i none = by_order (cases_lt i (length xs))
  where
    by_order : (i < length xs) ⊎ (length xs ≤ i) → length xs ≤ i
    by_order (inl low) = let there : None ≡ Some (get_or xs i 0) = sym none ∙ slice_get-get_or xs i 0 low in absurd (none_or_some there)
    by_order (inr high) = high

found_there : (xs : List ℕ) (j t : ℕ) → j < length xs → get_or xs j t ≡ t → slice_get xs j ≡ Some t
found_there xs j t low is = slice_get-get_or xs j t low ∙ ap Some is

target_there : (xs : List ℕ) (i t : ℕ) → slice_get xs i ≡ Some t → Contains xs t
target_there xs i t at = (i, slice_get_within xs i t at, get_or_from_slice_get xs i t t at)

-- what stands on a way leads to what its last node leads to
lead_from : (g : List (List ℕ)) (reached : List Bool) (order : List ℕ) (w : List Step) (s : Step) (t : ℕ) → Ways g reached (w ++ s ∷ []) order → Contains (targets g s.node) t → LeadTo g (w ++ s ∷ []) t
lead_from g reached order w s t ways to k d low = by_order (cases_lt k (length w))
  where
    by_order : (k < length w) ⊎ (length w ≤ k) → Leads (targets g) (get_or (w ++ s ∷ []) k d).node t
    by_order (inl old) =
        let long = length_push w s in
        let last = get_or_push w s d (length w) refl in
        lead_on (targets g) (get_or (w ++ s ∷ []) k d).node s.node t
        (subst (λ (x : Step). Leads (targets g) (get_or (w ++ s ∷ []) k d).node x.node) last (ways.on k (length w) d old (omega (arith, long)))) to
    by_order (inr end) =
        let long = length_push w s in
        let here : length w ≡ k = omega (arith, long, low, end) in
        subst (λ (x : Step). Leads (targets g) x.node t) (sym (get_or_push w s d k here)) (step s.node t to)

-- one more target was looked at, and entered where it was not reached
pub advanced : (g : List (List ℕ)) (reached : List Bool) (order : List ℕ) (w : List Step) (s : Step) (t : ℕ) → Fine g reached (w ++ s ∷ []) order → slice_get (targets g s.node) s.looked_at ≡ Some t
    → (b : Bool) → is_new reached t ≡ b → Fine g (reached_with b reached t) (way_with b (w ++ looked_more s ∷ []) t) order
advanced g reached order w s t fine at b is =
    let again = recounted_ways g reached order w s fine.ways in
    let long = fine.ways.long in
    record {
      ways = entered g reached (w ++ looked_more s ∷ []) order t again (lead_from g reached order w (looked_more s) t again (target_there (targets g s.node) s.looked_at t at)) b is;
      looked =
          looked_first g (reached_with b reached t) (w ++ looked_more s ∷ []) t
          (recounted_looked g (reached_with b reached t) order w s (looked_still g reached (reached_with b reached t) (w ++ s ∷ []) (stay b reached t is) fine.looked) t at
          (λ low. now_reached b reached t is (omega (arith, long, low)))) b;
    }

-- the first node of a way
pub begun : (g : List (List ℕ)) (reached : List Bool) (order : List ℕ) (n : ℕ) → Fine g reached [] order → (b : Bool) → is_new reached n ≡ b → Fine g (reached_with b reached n) (way_with b [] n) order
begun g reached order n fine b is =
    record {
      ways = entered g reached [] order n fine.ways (λ k d low. absurd (omega (arith, low))) b is;
      looked = looked_first g (reached_with b reached n) [] n (looked_still g reached (reached_with b reached n) [] (stay b reached n is) fine.looked) b;
    }

-- ---- a node is left

module _ (g : List (List ℕ)) (reached : List Bool) (order : List ℕ) (w : List Step) (s : Step) (fine : Fine g reached (w ++ s ∷ []) order)
    (all : slice_get (targets g s.node) s.looked_at ≡ None) where
  long_way : length (w ++ s ∷ []) ≡ suc (length w)
  long_way = let many = length_push w s in omega (arith, many)

  seen_at : (t : ℕ) → t < length g → Contains (targets g s.node) t → is_reached reached t ≡ true
  seen_at t in' (j, low, is) =
      let end = past_end (targets g s.node) s.looked_at all in
      let last = get_or_push w s s (length w) refl in
      let many = long_way in
      fine.looked (length w) s j t (omega (arith, many)) (subst (λ (x : Step). j < x.looked_at) (sym last) (omega (arith, low, end)))
      (subst (λ (x : Step). slice_get (targets g x.node) j ≡ Some t) (sym last) (found_there (targets g s.node) j t low is)) in'

  left_known : (node : ℕ) → Contains order node ⊎ ((k : ℕ) × (k < length (w ++ s ∷ [])) × ((d : Step) → (get_or (w ++ s ∷ []) k d).node ≡ node))
      → Contains (order ++ s.node ∷ []) node ⊎ ((k : ℕ) × (k < length w) × ((d : Step) → (get_or w k d).node ≡ node))
  left_known node (inl left) = inl (Contains-append_left order (s.node ∷ []) node left)
  left_known node (inr (k, low, there)) = by_order (cases_lt k (length w))
    where
      by_order : (k < length w) ⊎ (length w ≤ k) → Contains (order ++ s.node ∷ []) node ⊎ ((i : ℕ) × (i < length w) × ((d : Step) → (get_or w i d).node ≡ node))
      by_order (inl old) = inr (k, old, λ d. ap (λ (x : Step). x.node) (sym (get_or_append_left w (s ∷ []) d k old)) ∙ there d)
      by_order (inr end) =
          let many = long_way in
          let here : length w ≡ k = omega (arith, many, low, end) in
          let is : s.node ≡ node = ap (λ (x : Step). x.node) (sym (get_or_push w s s k here)) ∙ there s in
          inl (Contains-append_right order (s.node ∷ []) node (0, omega arith, is))

  led_back : (t : ℕ) → Contains (targets g s.node) t → Contains order t ⊎ ((k : ℕ) × (k < length (w ++ s ∷ [])) × ((d : Step) → (get_or (w ++ s ∷ []) k d).node ≡ t))
      → Contains order t ⊎ Leads (targets g) t s.node
  led_back t to (inl left) = inl left
  led_back t to (inr (k, low, there)) = by_order (cases_lt k (length w))
    where
      last : get_or (w ++ s ∷ []) (length w) s ≡ s
      last = get_or_push w s s (length w) refl

      by_order : (k < length w) ⊎ (length w ≤ k) → Contains order t ⊎ Leads (targets g) t s.node
      by_order (inl old) =
          let many = long_way in
          inr (subst (λ n. Leads (targets g) n s.node) (there s)
          (subst (λ (x : Step). Leads (targets g) (get_or (w ++ s ∷ []) k s).node x.node) last (fine.ways.on k (length w) s old (omega (arith, many)))))
      by_order (inr end) =
          let many = long_way in
          let here : length w ≡ k = omega (arith, many, low, end) in
          let is : s.node ≡ t = ap (λ (x : Step). x.node) (sym (get_or_push w s s k here)) ∙ there s in
          inr (subst (λ n. Leads (targets g) n s.node) is (step s.node s.node (subst (λ n. Contains (targets g s.node) n) (sym is) to)))

  left_behind : StandBehind g (order ++ s.node ∷ [])
  left_behind i t low in' to = by_order (cases_lt i (length order))
    where
      by_order : (i < length order) ⊎ (length order ≤ i) → Contains (take i (order ++ s.node ∷ [])) t ⊎ Leads (targets g) t (get_or (order ++ s.node ∷ []) i 0)
      by_order (inl old) =
          rw (get_or_append_left order (s.node ∷ []) 0 i old, take-append-le i order (s.node ∷ []) (omega (arith, old)))
          (fine.ways.behind i t old in' (subst (λ n. Contains (targets g n) t) (get_or_append_left order (s.node ∷ []) 0 i old) to))
      by_order (inr end) =
          let many = length_push order s.node in
          let here : length order ≡ i = omega (arith, many, low, end) in
          let is = get_or_push order s.node 0 i here in
          rw (is, ap (λ k. take k (order ++ s.node ∷ [])) (sym here), take-append_seam order (s.node ∷ []))
          (let own = subst (λ n. Contains (targets g n) t) is to in led_back t own (fine.ways.known t (seen_at t in' own)))

  pub left : Fine g reached w (order ++ s.node ∷ [])
  left = record {
    ways = record {
      long = fine.ways.long;
      on = λ i j d low high. let many = long_way in
          rw (sym (get_or_append_left w (s ∷ []) d i (omega (arith, low, high))), sym (get_or_append_left w (s ∷ []) d j high)) (fine.ways.on i j d low (omega (arith, many, high)));
      known = λ node is. left_known node (fine.ways.known node is);
      behind = left_behind;
      count = let old = fine.ways.count in let many = long_way in let more = length_push order s.node in omega (arith, old, many, more);
    };
    looked = λ k d j t low before at in'. let many = long_way in
        let same = get_or_append_left w (s ∷ []) d k low in
        fine.looked k d j t (omega (arith, many, low)) (subst (λ (x : Step). j < x.looked_at) (sym same) before) (subst (λ (x : Step). slice_get (targets g x.node) j ≡ Some t) (sym same) at) in';
  }

-- ---- the end

all_reached : (rs : List Bool) → ((n : ℕ) → n < length rs → is_reached rs n ≡ true) → fresh rs ≡ 0
unfolding fresh
all_reached [] each = refl
all_reached (true ∷ rs) each = all_reached rs (λ n low. each (suc n) (omega (arith, low)))
all_reached (false ∷ rs) each = let bad : false ≡ true = each 0 (omega arith) in absurd (not_both true refl (sym bad))

pub all_stand : (g : List (List ℕ)) (reached : List Bool) (order : List ℕ) → Fine g reached [] order → ((n : ℕ) → n < length g → is_reached reached n ≡ true) → EndsFirst g order
all_stand g reached order fine all = record {
  all = λ node low. on_none node (fine.ways.known node (all node low));
  count = let many = fine.ways.count in let none = all_reached reached (λ n low. all n (let long = fine.ways.long in omega (arith, long, low))) in omega (arith, many, none);
  behind = fine.ways.behind;
}
  where
    on_none : (node : ℕ) → Contains order node ⊎ ((k : ℕ) × (k < 0) × ((d : Step) → (get_or [] k d).node ≡ node)) → Contains order node
    on_none node (inl left) = left
    on_none node (inr (k, low, there)) = absurd (omega (arith, low))

-- ---- what is left to do

work_behind : (g : List (List ℕ)) (way : List Step) (s : Step) → way_work g (way ++ s ∷ []) ≡ way_work g way + step_work g s
unfolding way_work
work_behind g [] s = omega arith
work_behind g (x ∷ way) s = let rest = work_behind g way s in omega (arith, rest)

fresh_entered : (g : List (List ℕ)) (reached : List Bool) (n : ℕ) → length reached ≡ length g → is_new reached n ≡ true
    → fresh_work g reached ≡ suc (length (get_or g n [])) + fresh_work g (set reached n true)
unfolding fresh_work
fresh_entered [] reached n long new = let low = new_low reached n new in absurd (omega (arith, long, low))
fresh_entered (row ∷ g) [] n long new = absurd (omega (arith, long))
fresh_entered (row ∷ g) (true ∷ reached) zero long new = let bad : ⊥ = cc in absurd bad
fresh_entered (row ∷ g) (false ∷ reached) zero long new = refl
fresh_entered (row ∷ g) (true ∷ reached) (suc n) long new = fresh_entered g reached n (omega (arith, long)) new
fresh_entered (row ∷ g) (false ∷ reached) (suc n) long new = let rest = fresh_entered g reached n (omega (arith, long)) new in omega (arith, rest)

pub entered_work : (g : List (List ℕ)) (reached : List Bool) (way : List Step) (n : ℕ) → length reached ≡ length g → (b : Bool) → is_new reached n ≡ b
    → fresh_work g (reached_with b reached n) + way_work g (way_with b way n) ≡ fresh_work g reached + way_work g way
unfolding targets
entered_work g reached way n long false is = refl
entered_work g reached way n long true is =
    let less = fresh_entered g reached n long is in
    let more = work_behind g way (first_step n) in
    omega (arith, less, more)

pub looked_work : (g : List (List ℕ)) (w : List Step) (s : Step) (t : ℕ) → slice_get (targets g s.node) s.looked_at ≡ Some t → way_work g (w ++ looked_more s ∷ []) < way_work g (w ++ s ∷ [])
looked_work g w s t at =
    let one = work_behind g w s in
    let other = work_behind g w (looked_more s) in
    let low = slice_get_within (targets g s.node) s.looked_at t at in
    omega (arith, one, other, low)

pub left_work : (g : List (List ℕ)) (w : List Step) (s : Step) → way_work g w < way_work g (w ++ s ∷ [])
left_work g w s = let one = work_behind g w s in omega (arith, one)

-- ---- as walks

pub enters_stay : (old new : Walk) (n : ℕ) → Enters old n new → StayReached old.reached.items new.reached.items
enters_stay old new n enters = subst (StayReached old.reached.items) (sym enters.reached) (stay (is_new old.reached.items n) old.reached.items n refl)

pub enters_reached : (old new : Walk) (n : ℕ) → n < length old.reached.items → Enters old n new → is_reached new.reached.items n ≡ true
enters_reached old new n low enters =
    ap (λ rs. is_reached rs n) enters.reached ∙ now_reached (is_new old.reached.items n) old.reached.items n refl low

pub begun_walk : (g : List (List ℕ)) (old new : Walk) (n : ℕ) → IsFine g old → old.way.items ≡ [] → Enters old n new → IsFine g new
begun_walk g old new n fine empty enters =
    let b = is_new old.reached.items n in
    let first = begun g old.reached.items old.order.items n (subst (λ w. Fine g old.reached.items w old.order.items) empty fine) b refl in
    subst (λ rs. Fine g rs new.way.items new.order.items) (sym enters.reached)
    (subst (λ w. Fine g (reached_with b old.reached.items n) w new.order.items) (sym (enters.way ∙ ap (λ w. way_with b w n) empty))
    (subst (λ o. Fine g (reached_with b old.reached.items n) (way_with b [] n) o) (sym enters.order) first))

pub advanced_walk : (g : List (List ℕ)) (old mid new : Walk) (s : Step) (t : ℕ) → IsFineWith g old s → slice_get (targets g s.node) s.looked_at ≡ Some t
    → mid.reached.items ≡ old.reached.items → mid.way.items ≡ old.way.items ++ looked_more s ∷ [] → mid.order.items ≡ old.order.items → Enters mid t new → IsFine g new
advanced_walk g old mid new s t fine at reached way order enters =
    let b = is_new mid.reached.items t in
    let first = advanced g mid.reached.items mid.order.items old.way.items s t
    (subst (λ rs. Fine g rs (old.way.items ++ s ∷ []) mid.order.items) (sym reached) (subst (λ o. Fine g old.reached.items (old.way.items ++ s ∷ []) o) (sym order) fine)) at b refl in
    subst (λ rs. Fine g rs new.way.items new.order.items) (sym enters.reached)
    (subst (λ w. Fine g (reached_with b mid.reached.items t) w new.order.items) (sym (enters.way ∙ ap (λ w. way_with b w t) way))
    (subst (λ o. Fine g (reached_with b mid.reached.items t) (way_with b (old.way.items ++ looked_more s ∷ []) t) o) (sym enters.order) first))

pub advanced_less : (g : List (List ℕ)) (old mid new : Walk) (s : Step) (t : ℕ) → IsFineWith g old s → slice_get (targets g s.node) s.looked_at ≡ Some t
    → mid.reached.items ≡ old.reached.items → mid.way.items ≡ old.way.items ++ looked_more s ∷ [] → Enters mid t new → work g new < work_with g old s
advanced_less g old mid new s t fine at reached way enters =
    let b = is_new mid.reached.items t in
    let long = ap length reached ∙ fine.ways.long in
    let whole = entered_work g mid.reached.items mid.way.items t long b refl in
    let less = looked_work g old.way.items s t at in
    let new_way : way_work g new.way.items ≡ way_work g (way_with b mid.way.items t) = ap (way_work g) enters.way in
    let new_fresh : fresh_work g new.reached.items ≡ fresh_work g (reached_with b mid.reached.items t) = ap (fresh_work g) enters.reached in
    let old_way : way_work g mid.way.items ≡ way_work g (old.way.items ++ looked_more s ∷ []) = ap (way_work g) way in
    let old_fresh : fresh_work g mid.reached.items ≡ fresh_work g old.reached.items = ap (fresh_work g) reached in
    omega (arith, whole, less, new_way, new_fresh, old_way, old_fresh)

pub advanced_stay : (old mid new : Walk) (t : ℕ) → mid.reached.items ≡ old.reached.items → Enters mid t new → StayReached old.reached.items new.reached.items
advanced_stay old mid new t reached enters = subst (λ rs. StayReached rs new.reached.items) reached (enters_stay mid new t enters)

pub node_low : (g : List (List ℕ)) (walk : Walk) (n : ℕ) → IsFine g walk → n < length g → n < length walk.reached.items
node_low g walk n fine low = let long = fine.ways.long in omega (arith, long, low)

pub all_walked : (g : List (List ℕ)) (walk : Walk) → IsFine g walk → walk.way.items ≡ [] → ((n : ℕ) → n < length g → is_reached walk.reached.items n ≡ true) → EndsFirst g walk.order.items
all_walked g walk fine empty all = all_stand g walk.reached.items walk.order.items (subst (λ w. Fine g walk.reached.items w walk.order.items) empty fine) all

pub left_walk : (g : List (List ℕ)) (old new : Walk) (s : Step) → IsFineWith g old s → slice_get (targets g s.node) s.looked_at ≡ None → new.reached.items ≡ old.reached.items → new.way.items ≡ old.way.items
    → new.order.items ≡ old.order.items ++ s.node ∷ [] → IsFine g new
left_walk g old new s fine none reached way order =
    subst (λ rs. Fine g rs new.way.items new.order.items) (sym reached)
    (subst (λ w. Fine g old.reached.items w new.order.items) (sym way)
    (subst (λ o. Fine g old.reached.items old.way.items o) (sym order) (left g old.reached.items old.order.items old.way.items s fine none)))

pub left_less : (g : List (List ℕ)) (old new : Walk) (s : Step) → new.reached.items ≡ old.reached.items → new.way.items ≡ old.way.items → work g new < work_with g old s
left_less g old new s reached way =
    let less = left_work g old.way.items s in
    let new_way : way_work g new.way.items ≡ way_work g old.way.items = ap (way_work g) way in
    let new_fresh : fresh_work g new.reached.items ≡ fresh_work g old.reached.items = ap (fresh_work g) reached in
    omega (arith, less, new_way, new_fresh)
