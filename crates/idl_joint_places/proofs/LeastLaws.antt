-- The least place of what leads back to itself is that of the node of the least rank.
use Rattle.std.proofs.Common.{◌≡◌, refl, sym, ap, ap₂, subst, ◌∙◌, ℕ, zero, suc, Bool, true, false, List, [], ◌∷◌, ◌++◌, Option, None, Some, MatchOption, option_map, Contains, if◌then◌else◌, arith}
use Rattle.std.proofs.lemmas.List.{map-append}
use Rattle.std.proofs.lemmas.Bool.{both_ways}
use Rattle.std.specs.List.{flat_map}
use Rattle.uno_model.specs.Circles.{Leads}
use Rattle.uno_model.proofs.Options.{same_some}
use Rattle.circle_ranks.specs.Ranks.{IsLeastOnCircle, NoneOnCircle}
use Rattle.circle_ranks.specs.declared.node.Node.{Node}
use Rattle.circle_search.specs.Graph.{targets}
use Rattle.idl_meaning_model.proofs.FaultLaws.{flat_has, in_flat, in_map, map_has}
use Rattle.idl_model.specs.Places as plain
use Rattle.idl_model.specs.Places.{is_before}
use Rattle.idl_trees.specs.Names.{place_of}
use Rattle.idl_trees.specs.declared.place.Place.{Place}
use Rattle.idl_joint_places.specs.Circles.{FindsLeast, IsRanked, node_of, nodes_of}
use Rattle.idl_joint_places.specs.Ranks.{place_ranked}
use Rattle.idl_joint_places.proofs.RankLemmas.{ranked_behind}

-- ---- lists of places

-- a list without elements
pub nothing_there : {X : Type 0} (xs : List X) → ((x : X) → Contains xs x → ⊥) → xs ≡ []
nothing_there [] none = refl
nothing_there (x ∷ xs) none = absurd (none x (0, omega arith, refl))

pub nothing_in : {X : Type 0} (xs : List X) (x : X) → xs ≡ [] → Contains xs x → ⊥
nothing_in {X = X} xs x empty has = let none : Contains [] x = subst (λ (ys : List X). Contains ys x) empty has in omega (arith, none.1)

-- the same places have the same least
pub least_of_same : (ps qs : List plain.Place) → ((p : plain.Place) → Contains ps p → Contains qs p) → ((p : plain.Place) → Contains qs p → Contains ps p)
    → (found : Option Place) → FindsLeast ps found → FindsLeast qs found
least_of_same ps qs on back None empty = nothing_there qs (λ p has. nothing_in ps p empty (back p has))
least_of_same ps qs on back (Some place) least = record { one = on (place_of place) least.one; first = λ p has. least.first p (back p has) }

abbrev pub if_back : Bool → plain.Place → List plain.Place
if_back b place = if b then place ∷ [] else []

in_if_back : (b : Bool) (place p : plain.Place) → Contains (if_back b place) p → (b ≡ true) × (place ≡ p)
in_if_back true place p (zero, low, is) = (refl, is)
in_if_back true place p (suc k, low, is) = absurd (omega (arith, low))
in_if_back false place p has = absurd (omega (arith, has.1))

if_back_has : (b : Bool) (place : plain.Place) → b ≡ true → Contains (if_back b place) place
if_back_has true place is = (0, omega arith, refl)
if_back_has false place is = let bad : false ≡ true = is in absurd cc

-- ---- nodes

-- nodes are those of a list, and lead back where it says so
pub record AreNodes {X : Type 0} (xs : List X) (place : X → plain.Place) (back : X → Bool) (R : X → ℕ → Type 0) (g : List (List ℕ)) (nodes : List Node) : Type 0 where
  pub listed : (x : X) (n : ℕ) → Contains xs x → R x n → Contains (nodes_of nodes) (n, place x)
  pub only : (n : ℕ) (p : plain.Place) → Contains (nodes_of nodes) (n, p) → (x : X) × Contains xs x × R x n × (place x ≡ p)
  pub on : (x : X) (n : ℕ) → Contains xs x → R x n → Leads (targets g) n n → back x ≡ true
  pub off : (x : X) → Contains xs x → back x ≡ true → ((n : ℕ) → R x n → Leads (targets g) n n → ⊥) → ⊥

module _ {X : Type 0} (xs : List X) (place : X → plain.Place) (back : X → Bool) (R : X → ℕ → Type 0) (g : List (List ℕ)) (nodes : List Node) (are : AreNodes xs place back R g nodes) where
  -- the place of what is brought back
  abbrev pub circle_at : X → List plain.Place
  circle_at x = if_back (back x) (place x)

  node_there : (x : X) (n : ℕ) → Contains xs x → R x n → Leads (targets g) n n → (m : Node) × Contains nodes m × Leads (targets g) m.number m.number × (place_ranked m.rank ≡ place x)
  node_there x n has r way =
      let found = in_map node_of nodes (n, place x) (are.listed x n has r) in
      (found.0, found.1, subst (λ k. Leads (targets g) k k) (sym (ap (λ (t : ℕ × plain.Place). t.0) found.2)) way, ap (λ (t : ℕ × plain.Place). t.1) found.2)

  none_back : NoneOnCircle g nodes → (p : plain.Place) → Contains (flat_map circle_at xs) p → ⊥
  none_back none p has =
      let at = in_flat circle_at xs p has in
      let is = in_if_back (back at.0) (place at.0) p at.2 in
      are.off at.0 at.1 is.0 (λ n r way. let node = node_there at.0 n at.1 r way in none node.0 node.1 node.2)

  one_there : (least : ℕ) → IsLeastOnCircle g nodes least → Contains (flat_map circle_at xs) (place_ranked least)
  one_there least found =
      let x = are.only found.node.number (place_ranked found.node.rank) (map_has node_of nodes found.node found.one) in
      let is = are.on x.0 found.node.number x.1 x.2 found.circle in
      flat_has circle_at xs x.0 (place_ranked least) x.1
      (subst (λ p. Contains (circle_at x.0) p) (x.3 ∙ ap place_ranked found.rank) (if_back_has (back x.0) (place x.0) is))

  none_before : (least : ℕ) → IsLeastOnCircle g nodes least → (p : plain.Place) → Contains (flat_map circle_at xs) p → is_before p (place_ranked least) ≡ false
  none_before least found p has =
      let at = in_flat circle_at xs p has in
      let is = in_if_back (back at.0) (place at.0) p at.2 in
      by_test (is_before p (place_ranked least)) refl at.0 at.1 is.0 is.1
    where
      by_test : (b : Bool) → is_before p (place_ranked least) ≡ b → (x : X) → Contains xs x → back x ≡ true → place x ≡ p → is_before p (place_ranked least) ≡ false
      by_test false is x has' brought same = is
      by_test true is x has' brought same =
          absurd (are.off x has' brought (λ n r way.
          let node = node_there x n has' r way in
          let behind = ranked_behind least node.0.rank (found.first node.0 node.1 node.2) in
          both_ways (is_before p (place_ranked least)) (ap (λ q. is_before q (place_ranked least)) (sym (node.3 ∙ same)) ∙ behind) is))

  pub least_found : (found : Option Place) → IsRanked g nodes found → FindsLeast (flat_map circle_at xs) found
  least_found None none = nothing_there (flat_map circle_at xs) (none_back none)
  least_found (Some q) (least, found, same) =
      record {
        one = subst (λ p. Contains (flat_map circle_at xs) p) (sym same) (one_there least found);
        first = λ p has. subst (λ r. is_before p r ≡ false) (sym same) (none_before least found p has);
      }

-- ---- what code finds

pub node_added : (old new : List Node) (node : Node) (n : ℕ) (p : plain.Place) → new ≡ old ++ node ∷ [] → node.number ≡ n → place_ranked node.rank ≡ p
    → nodes_of new ≡ nodes_of old ++ (n, p) ∷ []
node_added old new node n p more number rank = ap nodes_of more ∙ map-append node_of old (node ∷ []) ∙ ap (λ k. nodes_of old ++ k ∷ []) (ap₂ (λ m q. (m, q)) number rank)

-- the place of what is found
pub ranked_is : (g : List (List ℕ)) (nodes : List Node) (found : Option ℕ) (result : Option Place) → option_map place_of result ≡ option_map place_ranked found
    → MatchOption found (NoneOnCircle g nodes) (λ rank. IsLeastOnCircle g nodes rank) → IsRanked g nodes result
ranked_is g nodes None None same none = none
ranked_is g nodes None (Some place) same none = let bad : ⊥ = cc in absurd bad
ranked_is g nodes (Some rank) None same least = let bad : ⊥ = cc in absurd bad
ranked_is g nodes (Some rank) (Some place) same least = (rank, least, same_some same)
