-- The first node on a circle in the order of ranks has the least rank.
use Rattle.std.proofs.Common.{◌≡◌, refl, sym, ap, subst, ◌∙◌, ℕ, zero, suc, ◌<◌, ◌≤◌, List, [], ◌∷◌, length, map, get_or, slice_get, Option, None, Some, Contains, MatchOption, option_map, inl, inr, arith}
use Rattle.std.proofs.lemmas.Bool.{cases_lt}
use Rattle.std.proofs.lemmas.List.{get_or_append_left, get_or-map, get_or_default, length-append, length-map}
use Rattle.std.proofs.lemmas.List.Sorted.{Contains-permutation, IsPermutation-sym}
use Rattle.std.specs.List.Sorted.{IsNonDecreasingBy, IsPermutation}
use Rattle.std.specs.Option.{option_and_then}
use Rattle.uno_model.specs.Circles.{Leads, HasNoCircle}
use Rattle.uno_model.proofs.PlaceLaws.{at_slice}
use Rattle.circle_search.specs.Graph.{targets, IsFirstOnCircle}
use Rattle.circle_ranks.specs.Order.{IsOrdered, below}
use Rattle.circle_ranks.specs.Ranks.{IsLeastOnCircle, NoneOnCircle}
use Rattle.circle_ranks.specs.declared.node.Node.{Node}
use Rattle.circle_ranks.proofs.OrderLemmas.{known_first, way_back, way_low, way_on}

none_past : {X : Type 0} (xs : List X) (k : ℕ) → slice_get xs k ≡ None → length xs ≤ k
none_past [] k absent = omega arith
none_past (x ∷ xs) zero absent = let bad : ⊥ = cc in absurd bad
none_past (x ∷ xs) (suc k) absent = let rest = none_past xs k absent in omega (arith, rest)

abbrev number : Node → ℕ
number n = n.number

module _ (g : List (List ℕ)) (nodes sorted : List Node) (ordered : List (List ℕ)) (same : IsPermutation nodes sorted) (rise : IsNonDecreasingBy (λ (n : Node). n.rank) sorted) (is : IsOrdered g sorted ordered) where
  way_there : (i : ℕ) → Leads (targets g) i i → Leads (targets ordered) (get_or is.numbers i 0) (get_or is.numbers i 0)
  way_there i way =
      subst (λ h. Leads (targets h) (get_or is.numbers i 0) (get_or is.numbers i 0)) (sym is.rows)
      (way_on g (map number sorted) is.order is.numbers is.listed is.numbered i i (way_low g (map number sorted) is.order is.numbers is.listed is.numbered i i way) way)

  numbered_at : (k : ℕ) (d : Node) → k < length sorted → get_or is.order k 0 ≡ (get_or sorted k d).number
  numbered_at k d low =
      ap (λ xs. get_or xs k 0) is.listed ∙ get_or_append_left (map number sorted) (below (length g)) 0 k (let long = length-map sorted number in omega (arith, long, low))
      ∙ get_or-map number sorted k d 0 low

  order_long : length sorted ≤ length is.order
  order_long =
      let all = ap length is.listed in
      let parts = length-append (map number sorted) (below (length g)) in
      let long = length-map sorted number in
      omega (arith, all, parts, long)

  -- a node on a circle is found no further on than it stands
  stands_behind : (j : ℕ) (other : Node) → j < length sorted → get_or sorted j other ≡ other → Leads (targets g) other.number other.number → get_or is.numbers other.number 0 ≤ j
  stands_behind j other low at way =
      known_first g (map number sorted) is.order is.numbers is.listed is.numbered j other.number (let long = order_long in omega (arith, low, long))
      (way_low g (map number sorted) is.order is.numbers is.listed is.numbered other.number other.number way) (numbered_at j other low ∙ ap number at)

  in_sorted : (other : Node) → Contains nodes other → Contains sorted other
  in_sorted other has = Contains-permutation nodes sorted other same has

  none : HasNoCircle (targets ordered) → NoneOnCircle g nodes
  none no_circle other has way = no_circle (get_or is.numbers other.number 0) (way_there other.number way)

  -- what stands behind the nodes is the first only where none of them is on a circle
  behind : (k : ℕ) → length sorted ≤ k → IsFirstOnCircle ordered k → NoneOnCircle g nodes
  behind k past found other has way =
      let there = in_sorted other has in
      let stands = stands_behind there.0 other there.1 there.2 way in
      found.first (get_or is.numbers other.number 0) (let low = there.1 in omega (arith, past, stands, low)) (way_there other.number way)

  least : (k : ℕ) (n : Node) → slice_get sorted k ≡ Some n → IsFirstOnCircle ordered k → IsLeastOnCircle g nodes n.rank
  least k n is_there found =
      let at = at_slice sorted k n n is_there in
      record {
        node = n;
        one = Contains-permutation sorted nodes n (IsPermutation-sym nodes sorted same) (k, at.0, at.1);
        rank = refl;
        circle =
            subst (λ i. Leads (targets g) i i) (numbered_at k n at.0 ∙ ap number at.1)
            (way_back g (map number sorted) is.order is.numbers is.listed is.numbered k k (subst (λ h. Leads (targets h) k k) is.rows found.circle));
        first = λ other has way. first_place k n at.0 at.1 found other (in_sorted other has) way;
      }
    where
      first_place : (k : ℕ) (n : Node) → k < length sorted → get_or sorted k n ≡ n → IsFirstOnCircle ordered k → (other : Node) → Contains sorted other → Leads (targets g) other.number other.number
          → n.rank ≤ other.rank
      first_place k n low at found other (j, within, here) way = elim (cases_lt (get_or is.numbers other.number 0) k) [
        | inl before ↦ absurd (found.first (get_or is.numbers other.number 0) before (way_there other.number way))
        | inr behind' ↦
            let stands = stands_behind j other within here way in
            subst (λ (m : Node). n.rank ≤ m.rank) (get_or_default sorted j n other within ∙ here)
            (subst (λ (m : Node). m.rank ≤ (get_or sorted j n).rank) at (rise k j n (omega (arith, behind', stands)) within))
      ]

  pub least_is : (found : Option ℕ) → MatchOption found (HasNoCircle (targets ordered)) (λ k. IsFirstOnCircle ordered k)
      → MatchOption (option_map (λ (n : Node). n.rank) (option_and_then (slice_get sorted) found)) (NoneOnCircle g nodes) (λ rank. IsLeastOnCircle g nodes rank)
  least_is None none_found = none none_found
  least_is (Some k) found = by_node (slice_get sorted k) refl
    where
      by_node : (o : Option Node) → slice_get sorted k ≡ o → MatchOption (option_map (λ (n : Node). n.rank) o) (NoneOnCircle g nodes) (λ rank. IsLeastOnCircle g nodes rank)
      by_node None absent = behind k (none_past sorted k absent) found
      by_node (Some n) is_there = least k n is_there found

-- the same where the nodes in their order are read twice
pub found_least : (g : List (List ℕ)) (nodes sorted : List Node) (ordered : List (List ℕ)) (first second : List Node) (rank found : Option ℕ)
    → IsPermutation nodes sorted → IsNonDecreasingBy (λ (n : Node). n.rank) sorted → first ≡ sorted → second ≡ sorted → IsOrdered g first ordered
    → MatchOption found (HasNoCircle (targets ordered)) (λ k. IsFirstOnCircle ordered k)
    → rank ≡ option_map (λ (n : Node). n.rank) (option_and_then (slice_get second) found)
    → MatchOption rank (NoneOnCircle g nodes) (λ r. IsLeastOnCircle g nodes r)
found_least g nodes sorted ordered first second rank found same rise is_first is_second is answer told =
    subst (λ o. MatchOption o (NoneOnCircle g nodes) (λ r. IsLeastOnCircle g nodes r))
    (sym (told ∙ ap (λ ns. option_map (λ (n : Node). n.rank) (option_and_then (slice_get ns) found)) is_second))
    (least_is g nodes sorted ordered same rise (subst (λ ns. IsOrdered g ns ordered) is_first is) found answer)
