-- Declarations, constants and items lead back to themselves where their nodes do.
use Rattle.std.proofs.Common.{◌≡◌, refl, sym, ap, ap₂, subst, ◌∙◌, ℕ, zero, suc, ◌+◌, Bool, true, false, not, ◌||◌, inl, inr, List, [], ◌∷◌, ◌++◌, map, slice_get, Option, None, Some, option_map, Contains, append-nil, if◌then◌else◌, arith}
use Rattle.std.proofs.lemmas.Bool.{and_parts, both_ways, not-true}
use Rattle.std.proofs.lemmas.Bool.Decides.{nat_tests}
use Rattle.std.proofs.lemmas.List.Elements.{Contains-append_cases, Contains-append_left, Contains-append_right}
use Rattle.std.proofs.lemmas.Option.{slice_get-get_or}
use Rattle.std.specs.List.{filter, filter_map, flat_map, list_any}
use Rattle.uno_model.specs.Circles.{HasNoCircle, Leads, step, on}
use Rattle.uno_model.specs.Entities.{Entity}
use Rattle.uno_model.specs.Places as uno
use Rattle.uno_model.specs.Registry.{IsRising}
use Rattle.uno_model.proofs.Options.{same_some}
use Rattle.uno_model.proofs.PlaceLaws.{at_slice, contains_behind, contains_cases, contains_head}
use Rattle.circle_ranks.proofs.OrderLemmas.{picked_one, picks}
use Rattle.circle_ranks.specs.declared.node.Node.{Node}
use Rattle.circle_search.specs.Graph.{targets}
use Rattle.registry_rules.specs.Graphs.{rows_of}
use Rattle.idl_meaning_model.specs.ConstantsMeant.{leads_to_valued}
use Rattle.idl_meaning_model.specs.Declarations.{Declared, Valued, all_valued, entities_declared, full_name, is_forward, valued_in}
use Rattle.idl_meaning_model.specs.FromFiles.{are_apart}
use Rattle.idl_meaning_model.proofs.FaultLaws.{at_itself, flat_has, in_flat, in_kept}
use Rattle.idl_model.specs.Places as plain
use Rattle.idl_model.specs.Places.{IsLeast, is_at, is_before}
use Rattle.idl_model.specs.Trees as tree
use Rattle.idl_rules_model.specs.Circles.{entity_comes_back, on_circles, value_comes_back}
use Rattle.idl_rules_model.specs.WherePaths.{failing}
use Rattle.idl_rules_model.proofs.CircleLaws.{never_back, on_no_circle}
use Rattle.idl_rules_model.proofs.ValueCircleLaws.{comes_back, leads_back}
use Rattle.idl_trees.specs.Names.{place_of}
use Rattle.idl_trees.specs.declared.place.Place.{Place}
use Rattle.idl_joint_places.specs.Circles.{FindsLeast, IsRanked, LeadsAmong, entity_circle, node_there, nodes_of, numbered, value_circle}
use Rattle.idl_joint_places.proofs.LeastLaws.{AreNodes, if_back, least_found, least_of_same, nothing_in}
use Rattle.idl_joint_places.proofs.WayLaws.{back_by_place, back_of_name, has_place}

-- ---- what a list has

any_at : {X : Type 0} (p : X → Bool) (xs : List X) (x : X) → Contains xs x → p x ≡ true → list_any p xs ≡ true
any_at p [] x (k, low, is) right = absurd (omega (arith, low))
any_at p (y ∷ ys) x (zero, low, is) right = rw (subst (λ z. p z ≡ true) (sym is) right) refl
any_at p (y ∷ ys) x (suc k, low, is) right = by_first (p y) (any_at p ys x (k, omega (arith, low), is) right)
  where
    by_first : (b : Bool) → list_any p ys ≡ true → (b || list_any p ys) ≡ true
    by_first true rest = refl
    by_first false rest = rest

kept_by : {X : Type 0} (test : X → Bool) (xs : List X) (x : X) → Contains xs x → test x ≡ true → Contains (filter test xs) x
kept_by test [] x has is = absurd (omega (arith, has.1))
kept_by test (y ∷ ys) x has is = elim (contains_cases y ys x has) [
  | inl here ↦ subst (λ z. Contains (filter test (y ∷ ys)) z) here (first (test y) (subst (λ z. test z ≡ true) (sym here) is))
  | inr behind ↦ later (test y) (kept_by test ys x behind is)
]
  where
    first : (b : Bool) → b ≡ true → Contains (if b then y ∷ filter test ys else filter test ys) y
    first true right = contains_head y (filter test ys)
    first false right = let bad : false ≡ true = right in absurd cc

    later : (b : Bool) → Contains (filter test ys) x → Contains (if b then y ∷ filter test ys else filter test ys) x
    later true rest = contains_behind y (filter test ys) x rest
    later false rest = rest

-- ---- entities

module _ (reg : List Entity) (rising : IsRising reg) where
  abbrev place : Declared → plain.Place
  place d = d.name.place

  -- an entity is declared and on a circle
  abbrev back : Declared → Bool
  back d = if is_forward d.body then false else entity_comes_back reg (full_name d)

  abbrev IsNode : Declared → ℕ → Type 0
  IsNode d n = (is_forward d.body ≡ false) × (uno.place_of (full_name d) reg ≡ Some n)

  node_is : (d : Declared) (n : ℕ) → IsNode d n → node_there reg d ≡ Some (n, place d)
  unfolding node_there
  node_is d n (entity, at) = rw (entity, at) refl

  of_node : (d : Declared) (n : ℕ) (p : plain.Place) → node_there reg d ≡ Some (n, p) → IsNode d n × (place d ≡ p)
  unfolding node_there
  of_node d n p is = by_kind (is_forward d.body) refl is
    where
      of_place : (o : Option ℕ) → uno.place_of (full_name d) reg ≡ o → option_map {U = ℕ × plain.Place} (λ k. (k, d.name.place)) o ≡ Some (n, p) → (uno.place_of (full_name d) reg ≡ Some n) × (d.name.place ≡ p)
      of_place None at none = let bad : ⊥ = cc in absurd bad
      of_place (Some k) at some =
          let pair : ◌≡◌ {A = ℕ × plain.Place} (k, d.name.place) (n, p) = same_some some in
          (at ∙ ap (λ m. Some m) (ap (λ (t : ℕ × plain.Place). t.0) pair), ap (λ (t : ℕ × plain.Place). t.1) pair)

      by_kind : (b : Bool) → is_forward d.body ≡ b → (if b then None else option_map {U = ℕ × plain.Place} (λ k. (k, d.name.place)) (uno.place_of (full_name d) reg)) ≡ Some (n, p) → IsNode d n × (place d ≡ p)
      by_kind true kind none = let bad : ⊥ = cc in absurd bad
      by_kind false kind some = let both = of_place (uno.place_of (full_name d) reg) refl some in ((kind, both.0), both.1)

  comes : (d : Declared) (n : ℕ) → IsNode d n → Leads (targets (rows_of reg)) n n → back d ≡ true
  comes d n (entity, at) way = rw entity (by_test (entity_comes_back reg (full_name d)) refl)
    where
      by_test : (b : Bool) → entity_comes_back reg (full_name d) ≡ b → b ≡ true
      by_test true is = refl
      by_test false is = absurd (on_no_circle reg (full_name d) is (back_by_place reg (full_name d) n at rising way))

  brought : (d : Declared) → back d ≡ true → ((n : ℕ) → IsNode d n → Leads (targets (rows_of reg)) n n → ⊥) → ⊥
  brought d is none = by_kind (is_forward d.body) refl is
    where
      by_kind : (b : Bool) → is_forward d.body ≡ b → (if b then false else entity_comes_back reg (full_name d)) ≡ true → ⊥
      by_kind true kind right = let bad : false ≡ true = right in absurd cc
      by_kind false kind right =
          both_ways (entity_comes_back reg (full_name d))
          (never_back reg (full_name d) (λ way.
          let there = has_place reg (full_name d) (full_name d) way in
          none there.0 (kind, there.1) (back_of_name reg (full_name d) there.0 there.1 way))) right

  circle_is : (d : Declared) → if_back (back d) (place d) ≡ entity_circle reg d
  unfolding entity_circle
  circle_is d = by_kind (is_forward d.body)
    where
      by_kind : (b : Bool) → if_back (if b then false else entity_comes_back reg (full_name d)) (place d) ≡ (if b then [] else (if entity_comes_back reg (full_name d) then d.name.place ∷ [] else []))
      by_kind true = refl
      by_kind false = refl

  pub entity_found : (ds : List Declared) (nodes : List Node) (graph : List (List ℕ)) (found : Option Place) → graph ≡ rows_of reg → nodes_of nodes ≡ filter_map (node_there reg) ds
      → IsRanked graph nodes found → FindsLeast (flat_map (entity_circle reg) ds) found
  entity_found ds nodes graph found is listed ranked =
      subst (λ ps. FindsLeast ps found) (flat_same ds)
      (least_found ds place back IsNode (rows_of reg) nodes are found (subst (λ g. IsRanked g nodes found) is ranked))
    where
      are : AreNodes ds place back IsNode (rows_of reg) nodes
      are = record {
        listed = λ d n has node. subst (λ xs. Contains xs (n, place d)) (sym listed) (picks (node_there reg) ds d (n, place d) has (node_is d n node));
        only = λ n p has. let one = picked_one (node_there reg) ds (n, p) (subst (λ xs. Contains xs (n, p)) listed has) in let of = of_node one.0 n p one.2 in (one.0, one.1, of.0, of.1);
        on = λ d n has node way. comes d n node way;
        off = λ d has is none. brought d is none;
      }

      flat_same : (es : List Declared) → flat_map (λ d. if_back (back d) (place d)) es ≡ flat_map (entity_circle reg) es
      flat_same [] = refl
      flat_same (e ∷ es) = ap₂ (λ xs ys. xs ++ ys) (circle_is e) (flat_same es)

  not_back : (graph : List (List ℕ)) → graph ≡ rows_of reg → HasNoCircle (targets graph) → (d : Declared) → entity_circle reg d ≡ []
  not_back graph is none d = sym (circle_is d) ∙ by_test (back d) refl
    where
      by_test : (b : Bool) → back d ≡ b → if_back b (place d) ≡ []
      by_test true back_is = absurd (brought d back_is (λ n node way. none n (subst (λ g. Leads (targets g) n n) (sym is) way)))
      by_test false back_is = refl

  -- where the graph has no circle
  pub no_entity : (graph : List (List ℕ)) → graph ≡ rows_of reg → HasNoCircle (targets graph) → (ds : List Declared) → flat_map (entity_circle reg) ds ≡ []
  no_entity graph is none [] = refl
  no_entity graph is none (d ∷ ds) = ap₂ (λ xs ys. xs ++ ys) (not_back graph is none d) (no_entity graph is none ds)

-- ---- constants and items

in_numbered : (k : ℕ) (ps : List plain.Place) (n : ℕ) (p : plain.Place) → Contains (numbered k ps) (n, p) → (i : ℕ) × (n ≡ k + i) × (slice_get ps i ≡ Some p)
unfolding numbered
in_numbered k [] n p has = absurd (omega (arith, has.1))
in_numbered k (q ∷ qs) n p has = elim (contains_cases (k, q) (numbered (suc k) qs) (n, p) has) [
  | inl here ↦ (0, (let first = ap (λ (t : ℕ × plain.Place). t.0) here in omega (arith, first)), ap (λ r. Some r) (ap (λ (t : ℕ × plain.Place). t.1) here))
  | inr behind ↦ let rest = in_numbered (suc k) qs n p behind in (suc rest.0, (let at = rest.1 in omega (arith, at)), rest.2)
]

numbered_has : (k : ℕ) (ps : List plain.Place) (i : ℕ) (p : plain.Place) → slice_get ps i ≡ Some p → Contains (numbered k ps) (k + i, p)
unfolding numbered
numbered_has k [] i p at = let bad : ⊥ = cc in absurd bad
numbered_has k (q ∷ qs) zero p at =
    let same : k + 0 ≡ k = omega arith in
    subst (λ n. Contains ((k, q) ∷ numbered (suc k) qs) (n, p)) (sym same)
    (subst (λ r. Contains ((k, q) ∷ numbered (suc k) qs) (k, r)) (same_some at) (contains_head (k, q) (numbered (suc k) qs)))
numbered_has k (q ∷ qs) (suc i) p at =
    let same : suc k + i ≡ k + suc i = omega arith in
    subst (λ n. Contains ((k, q) ∷ numbered (suc k) qs) (n, p)) same (contains_behind (k, q) (numbered (suc k) qs) (suc k + i, p) (numbered_has (suc k) qs i p at))

slice_mapped : {X Y : Type 0} (f : X → Y) (xs : List X) (i : ℕ) (y : Y) → slice_get (map f xs) i ≡ Some y → (x : X) × (slice_get xs i ≡ Some x) × (f x ≡ y)
slice_mapped f [] i y at = let bad : ⊥ = cc in absurd bad
slice_mapped f (x ∷ xs) zero y at = (x, refl, same_some at)
slice_mapped f (x ∷ xs) (suc i) y at = slice_mapped f xs i y at

mapped_slice : {X Y : Type 0} (f : X → Y) (xs : List X) (i : ℕ) (x : X) → slice_get xs i ≡ Some x → slice_get (map f xs) i ≡ Some (f x)
mapped_slice f [] i x at = let bad : ⊥ = cc in absurd bad
mapped_slice f (y ∷ ys) zero x at = ap (λ z. Some (f z)) (same_some at)
mapped_slice f (y ∷ ys) (suc i) x at = mapped_slice f ys i x at

slice_has : {X : Type 0} (xs : List X) (i : ℕ) (x : X) → slice_get xs i ≡ Some x → Contains xs x
slice_has xs i x at = let there = at_slice xs i x x at in (i, there.0, there.1)

has_slice : {X : Type 0} (xs : List X) (x : X) → Contains xs x → (i : ℕ) × (slice_get xs i ≡ Some x)
has_slice xs x (i, low, is) = (i, slice_get-get_or xs i x low ∙ ap (λ y. Some y) is)

module _ (vs : List Valued) (g : List (List ℕ)) (apart : are_apart (map (λ v. v.name.place) vs) ≡ true) (leads : LeadsAmong vs g) where
  abbrev valued_place : Valued → plain.Place
  valued_place v = v.name.place

  -- ways between places are ways between constants
  valued_way : (i j : ℕ) (v w : Valued) → slice_get vs i ≡ Some v → slice_get vs j ≡ Some w → Leads (targets g) i j → Leads (leads_to_valued vs) v w
  valued_way i j v w at_i at_j (step x y has) =
      let next = leads.only i j v at_i has in
      step v w (subst (λ u. Contains (leads_to_valued vs v) u) (same_some (sym next.1 ∙ at_j)) next.2)
  valued_way i j v w at_i at_j (on x c y has rest) =
      let next = leads.only i c v at_i has in
      on v next.0 w next.2 (valued_way c j next.0 w next.1 at_j rest)

  place_way : (i : ℕ) (v w : Valued) → slice_get vs i ≡ Some v → Leads (leads_to_valued vs) v w → (j : ℕ) × (slice_get vs j ≡ Some w) × Leads (targets g) i j
  place_way i v w at_i (step x y has) = let next = leads.on i v w at_i has in (next.0, next.1, step i next.0 next.2)
  place_way i v w at_i (on x u y has rest) =
      let next = leads.on i v u at_i has in
      let more = place_way next.0 u w next.1 rest in
      (more.0, more.1, on i next.0 more.0 next.2 more.2)

  -- a place stands in the list once
  unlike : (p q : plain.Place) (ps : List plain.Place) → Contains ps q → list_any (is_at p) ps ≡ false → p ≡ q → ⊥
  unlike p q ps has none same = both_ways (list_any (is_at p) ps) none (any_at (is_at p) ps q has (subst (λ r. is_at p r ≡ true) same (at_itself p)))

  one_number : (ps : List plain.Place) (i j : ℕ) (p : plain.Place) → are_apart ps ≡ true → slice_get ps i ≡ Some p → slice_get ps j ≡ Some p → i ≡ j
  unfolding are_apart
  one_number [] i j p alone at_i at_j = let bad : ⊥ = cc in absurd bad
  one_number (q ∷ qs) zero zero p alone at_i at_j = refl
  one_number (q ∷ qs) zero (suc j) p alone at_i at_j =
      let parts = and_parts (not (list_any (is_at q) qs)) (are_apart qs) alone in
      absurd (unlike q p qs (slice_has qs j p at_j) (not-true (list_any (is_at q) qs) parts.0) (same_some at_i))
  one_number (q ∷ qs) (suc i) zero p alone at_i at_j =
      let parts = and_parts (not (list_any (is_at q) qs)) (are_apart qs) alone in
      absurd (unlike q p qs (slice_has qs i p at_i) (not-true (list_any (is_at q) qs) parts.0) (same_some at_j))
  one_number (q ∷ qs) (suc i) (suc j) p alone at_i at_j =
      let parts = and_parts (not (list_any (is_at q) qs)) (are_apart qs) alone in
      ap suc (one_number qs i j p parts.1 at_i at_j)

  abbrev IsValued : Valued → ℕ → Type 0
  IsValued v n = slice_get vs n ≡ Some v

  value_comes : (v : Valued) (n : ℕ) → IsValued v n → Leads (targets g) n n → value_comes_back vs v ≡ true
  value_comes v n at way = comes_back vs apart v (slice_has vs n v at) (valued_way n n v v at at way)

  value_brought : (v : Valued) → Contains vs v → value_comes_back vs v ≡ true → ((n : ℕ) → IsValued v n → Leads (targets g) n n → ⊥) → ⊥
  value_brought v has is none =
      let here = has_slice vs v has in
      let way = place_way here.0 v v here.1 (leads_back vs apart v has is) in
      let one = one_number (map valued_place vs) way.0 here.0 (valued_place v) apart (mapped_slice valued_place vs way.0 v way.1) (mapped_slice valued_place vs here.0 v here.1) in
      none here.0 here.1 (subst (λ n. Leads (targets g) here.0 n) one way.2)

  pub value_found : (nodes : List Node) (found : Option Place) → nodes_of nodes ≡ numbered 0 (map valued_place vs) → IsRanked g nodes found → FindsLeast (flat_map (value_circle vs) vs) found
  unfolding value_circle
  value_found nodes found listed ranked = least_found vs valued_place (value_comes_back vs) IsValued g nodes are found ranked
    where
      only_one : (n : ℕ) (p : plain.Place) → (i : ℕ) × (n ≡ 0 + i) × (slice_get (map valued_place vs) i ≡ Some p) → (v : Valued) × Contains vs v × IsValued v n × (valued_place v ≡ p)
      only_one n p (i, number, at) =
          let there = slice_mapped valued_place vs i p at in
          let same : i ≡ n = omega (arith, number) in
          (there.0, slice_has vs i there.0 there.1, subst (λ k. slice_get vs k ≡ Some there.0) same there.1, there.2)

      stands : (n : ℕ) (v : Valued) → IsValued v n → Contains (numbered 0 (map valued_place vs)) (n, valued_place v)
      stands n v at =
          let same : 0 + n ≡ n = omega arith in
          subst (λ k. Contains (numbered 0 (map valued_place vs)) (k, valued_place v)) same (numbered_has 0 (map valued_place vs) n (valued_place v) (mapped_slice valued_place vs n v at))

      are : AreNodes vs valued_place (value_comes_back vs) IsValued g nodes
      are = record {
        listed = λ v n has at. subst (λ xs. Contains xs (n, valued_place v)) (sym listed) (stands n v at);
        only = λ n p has. only_one n p (in_numbered 0 (map valued_place vs) n p (subst (λ xs. Contains xs (n, p)) listed has));
        on = λ v n has at way. value_comes v n at way;
        off = λ v has is none. value_brought v has is none;
      }

-- ---- both

abbrev value_at : List Valued → Valued → List plain.Place
value_at all v = if value_comes_back all v then v.name.place ∷ [] else []

failing_same : (all vs : List Valued) → failing (λ v. not (value_comes_back all v)) (λ v. v.name.place) vs ≡ flat_map (value_at all) vs
failing_same all [] = refl
failing_same all (v ∷ vs) = by_value (value_comes_back all v) (failing_same all vs)
  where
    by_value : (b : Bool) → failing (λ w. not (value_comes_back all w)) (λ w. w.name.place) vs ≡ flat_map (value_at all) vs
        → map (λ (w : Valued). w.name.place) (if not (not b) then v ∷ filter (λ w. not (not (value_comes_back all w))) vs else filter (λ w. not (not (value_comes_back all w))) vs)
        ≡ (if b then v.name.place ∷ [] else []) ++ flat_map (value_at all) vs
    by_value true rest = ap (λ ps. v.name.place ∷ ps) rest
    by_value false rest = rest

entity_same : (reg : List Entity) (d : Declared) (b : Bool) → map (λ (e : Declared). e.name.place) (if not (not b) then d ∷ [] else []) ≡ (if b then d.name.place ∷ [] else [])
entity_same reg d true = refl
entity_same reg d false = refl

-- what the rule says of a declaration
on_both : (ds : List Declared) (reg : List Entity) (d : Declared) → is_forward d.body ≡ false
    → on_circles ds reg d ≡ entity_circle reg d ++ flat_map (value_circle (all_valued ds)) (valued_in d d.body)
unfolding on_circles entity_circle value_circle
on_both ds reg d entity = rw entity (ap₂ (λ xs ys. xs ++ ys) (entity_same reg d (entity_comes_back reg (full_name d))) (failing_same (all_valued ds) (valued_in d d.body)))

-- what has a place among them declares an entity
circle_of_entity : (reg : List Entity) (d : Declared) (p : plain.Place) → Contains (entity_circle reg d) p → is_forward d.body ≡ false
unfolding entity_circle
circle_of_entity reg d p has = by_kind (is_forward d.body) has
  where
    by_kind : (b : Bool) → Contains (if b then [] else (if entity_comes_back reg (full_name d) then d.name.place ∷ [] else [])) p → b ≡ false
    by_kind true none = absurd (omega (arith, none.1))
    by_kind false here = refl

no_values : (d : Declared) → is_forward d.body ≡ true → valued_in d d.body ≡ []
no_values d is = of_body d.body is
  where
    of_body : (body : tree.Declaration) → is_forward body ≡ true → valued_in d body ≡ []
    of_body tree.forward is' = refl
    of_body body is' = let bad : false ≡ true = is' in absurd cc

valued_of_entity : (d : Declared) (v : Valued) → Contains (valued_in d d.body) v → is_forward d.body ≡ false
valued_of_entity d v has = by_kind (is_forward d.body) refl
  where
    by_kind : (b : Bool) → is_forward d.body ≡ b → b ≡ false
    by_kind true kind = absurd (nothing_in (valued_in d d.body) v (no_values d kind) has)
    by_kind false kind = refl

module _ (ds : List Declared) (reg : List Entity) where
  -- a place of the rule is one of an entity, or of a constant or an item
  to_both : (p : plain.Place) → Contains (flat_map (on_circles ds reg) (entities_declared ds)) p → Contains (flat_map (entity_circle reg) ds ++ flat_map (value_circle (all_valued ds)) (all_valued ds)) p
  unfolding entities_declared all_valued
  to_both p has =
      let at = in_flat (on_circles ds reg) (entities_declared ds) p has in
      let kept = in_kept (λ (d : Declared). not (is_forward d.body)) ds at.0 at.1 in
      let entity = not-true (is_forward at.0.body) kept.1 in
      elim (Contains-append_cases (entity_circle reg at.0) (flat_map (value_circle (all_valued ds)) (valued_in at.0 at.0.body)) p (subst (λ ps. Contains ps p) (on_both ds reg at.0 entity) at.2)) [
        | inl first ↦ Contains-append_left (flat_map (entity_circle reg) ds) (flat_map (value_circle (all_valued ds)) (all_valued ds)) p (flat_has (entity_circle reg) ds at.0 p kept.0 first)
        | inr second ↦
            let value = in_flat (value_circle (all_valued ds)) (valued_in at.0 at.0.body) p second in
            Contains-append_right (flat_map (entity_circle reg) ds) (flat_map (value_circle (all_valued ds)) (all_valued ds)) p
            (flat_has (value_circle (all_valued ds)) (all_valued ds) value.0 p (flat_has (λ (d : Declared). valued_in d d.body) ds at.0 value.0 kept.0 value.1) value.2)
      ]

  kept_in : (d : Declared) → Contains ds d → is_forward d.body ≡ false → Contains (entities_declared ds) d
  unfolding entities_declared
  kept_in d has entity = kept_by (λ (e : Declared). not (is_forward e.body)) ds d has (ap not entity)

  of_entity : (p : plain.Place) (d : Declared) → Contains ds d → is_forward d.body ≡ false
      → Contains (entity_circle reg d ++ flat_map (value_circle (all_valued ds)) (valued_in d d.body)) p → Contains (flat_map (on_circles ds reg) (entities_declared ds)) p
  of_entity p d has entity here = flat_has (on_circles ds reg) (entities_declared ds) d p (kept_in d has entity) (subst (λ (ps : List plain.Place). Contains ps p) (sym (on_both ds reg d entity)) here)

  entity_there : (p : plain.Place) (d : Declared) → Contains ds d → Contains (entity_circle reg d) p → Contains (flat_map (on_circles ds reg) (entities_declared ds)) p
  entity_there p d has here =
      of_entity p d has (circle_of_entity reg d p here) (Contains-append_left (entity_circle reg d) (flat_map (value_circle (all_valued ds)) (valued_in d d.body)) p here)

  value_there : (p : plain.Place) (v : Valued) → Contains (all_valued ds) v → Contains (value_circle (all_valued ds) v) p → Contains (flat_map (on_circles ds reg) (entities_declared ds)) p
  unfolding all_valued
  value_there p v has here =
      let of = in_flat (λ (d : Declared). valued_in d d.body) ds v has in
      of_entity p of.0 of.1 (valued_of_entity of.0 v of.2)
      (Contains-append_right (entity_circle reg of.0) (flat_map (value_circle (all_valued ds)) (valued_in of.0 of.0.body)) p (flat_has (value_circle (all_valued ds)) (valued_in of.0 of.0.body) v p of.2 here))

  from_both : (p : plain.Place) → Contains (flat_map (entity_circle reg) ds ++ flat_map (value_circle (all_valued ds)) (all_valued ds)) p → Contains (flat_map (on_circles ds reg) (entities_declared ds)) p
  from_both p has = elim (Contains-append_cases (flat_map (entity_circle reg) ds) (flat_map (value_circle (all_valued ds)) (all_valued ds)) p has) [
    | inl first ↦ let at = in_flat (entity_circle reg) ds p first in entity_there p at.0 at.1 at.2
    | inr second ↦ let at = in_flat (value_circle (all_valued ds)) (all_valued ds) p second in value_there p at.0 at.1 at.2
  ]

  -- the least of both is the least of the rule
  pub both_found : (found : Option Place) → FindsLeast (flat_map (entity_circle reg) ds ++ flat_map (value_circle (all_valued ds)) (all_valued ds)) found
      → FindsLeast (flat_map (on_circles ds reg) (entities_declared ds)) found
  both_found found least =
      least_of_same (flat_map (entity_circle reg) ds ++ flat_map (value_circle (all_valued ds)) (all_valued ds)) (flat_map (on_circles ds reg) (entities_declared ds)) from_both to_both found least

-- ---- the earlier of two

-- what is in the one list or the other has nothing before the earlier of their least
pub no_other : (ps qs : List plain.Place) → ps ≡ [] → (found : Option Place) → FindsLeast qs found → FindsLeast (ps ++ qs) found
no_other ps qs empty found least = subst (λ (xs : List plain.Place). FindsLeast (xs ++ qs) found) (sym empty) least

pub no_second : (ps qs : List plain.Place) (place : Place) → qs ≡ [] → IsLeast (place_of place) ps → IsLeast (place_of place) (ps ++ qs)
no_second ps qs place empty least = subst (λ (xs : List plain.Place). IsLeast (place_of place) (ps ++ xs)) (sym empty) (subst (λ (xs : List plain.Place). IsLeast (place_of place) xs) (sym (append-nil ps)) least)

earlier_than : (p f h : plain.Place) → is_before p f ≡ false → is_before h f ≡ true → is_before p h ≡ false
earlier_than p f h none less = grind (arith, nat_tests)

not_before_too : (f g h : plain.Place) → is_before f g ≡ false → is_before g h ≡ false → is_before f h ≡ false
not_before_too f g h one two = grind (arith, nat_tests)

-- what does not come before the later does not come before the earlier
pub second_first : (ps qs : List plain.Place) (place other : Place) → IsLeast (place_of place) ps → IsLeast (place_of other) qs → is_before (place_of other) (place_of place) ≡ true
    → IsLeast (place_of other) (ps ++ qs)
second_first ps qs place other first second before = record {
  one = Contains-append_right ps qs (place_of other) second.one;
  first = λ p has. elim (Contains-append_cases ps qs p has) [
    | inl one ↦ before_not p (first.first p one)
    | inr two ↦ second.first p two
  ];
}
  where
    before_not : (p : plain.Place) → is_before p (place_of place) ≡ false → is_before p (place_of other) ≡ false
    before_not p none = earlier_than p (place_of place) (place_of other) none before

pub first_first : (ps qs : List plain.Place) (place other : Place) → IsLeast (place_of place) ps → IsLeast (place_of other) qs → is_before (place_of other) (place_of place) ≡ false
    → IsLeast (place_of place) (ps ++ qs)
first_first ps qs place other first second behind = record {
  one = Contains-append_left ps qs (place_of place) first.one;
  first = λ p has. elim (Contains-append_cases ps qs p has) [
    | inl one ↦ first.first p one
    | inr two ↦ not_before_too p (place_of other) (place_of place) (second.first p two) behind
  ];
}
