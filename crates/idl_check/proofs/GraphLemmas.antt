-- The graph of constants and items, by their places: it leads as they do.
use Rattle.std.proofs.Common.{◌≡◌, refl, sym, ap, subst, ◌∙◌, ℕ, zero, suc, ◌+◌, ◌<◌, Bool, true, false, List, [], ◌∷◌, length, get_or, slice_get, Option, None, Some, option_map, Contains, if◌then◌else◌, arith}
use Rattle.std.specs.List.{cons_option, filter_map, find}
use Rattle.std.specs.Option.{option_and_then, option_to_list}
use Rattle.circle_search.specs.Graph.{targets}
use Rattle.idl_joint_places.specs.Circles.{LeadsAmong}
use Rattle.idl_meaning_model.specs.ConstantsMeant.{leads_to_valued, origin_leads_to, valued_at}
use Rattle.idl_meaning_model.specs.Declarations.{Origin, Valued, expression, first_item, item_before}
use Rattle.idl_meaning_model.specs.Scopes.{constant_named}
use Rattle.idl_meaning_model.specs.Uses.{expr_paths}
use Rattle.idl_meaning_model.proofs.FaultLaws.{flat_has, in_flat}
use Rattle.idl_meant.specs.Numbering.{IsValueGraph}
use Rattle.idl_model.specs.Places.{Place, is_at}
use Rattle.idl_model.specs.Trees.{Path}
use Rattle.idl_values.specs.Graph.{AreKnown, AreLow, IsBehind, StandInOrder, origin_places, place_before, places_from}
use Rattle.idl_values.specs.Origins.{all_origins}
use Rattle.idl_values.specs.Places.{first_place}
use Rattle.uno_model.proofs.Options.{none_some, same_some}

-- ---- lists

at_low : {X : Type 0} (xs : List X) (i : ℕ) → i < length xs → (x : X) × (slice_get xs i ≡ Some x)
at_low [] i low = absurd (omega (arith, low))
at_low (x ∷ xs) zero low = (x, refl)
at_low (x ∷ xs) (suc i) low = at_low xs i (omega (arith, low))

in_option : {X : Type 0} (o : Option X) (x : X) → Contains (option_to_list o) x → o ≡ Some x
in_option None x in' = absurd (omega (arith, in'.1))
in_option (Some y) x (zero, low, is) = ap Some is
in_option (Some y) x (suc k, low, is) = absurd (omega arith)

option_has : {X : Type 0} (o : Option X) (x : X) → o ≡ Some x → Contains (option_to_list o) x
option_has None x is = absurd (none_some is)
option_has (Some y) x is = (0, omega arith, same_some is)

in_chosen : {X Y : Type 0} (f : X → Option Y) (xs : List X) (y : Y) → Contains (filter_map f xs) y → (x : X) × Contains xs x × (f x ≡ Some y)
in_chosen f [] y in' = absurd (omega (arith, in'.1))
in_chosen {X = X} {Y = Y} f (x ∷ xs) y in' = by_option (f x) refl in' (in_chosen f xs y)
  where
    by_option : (o : Option Y) → f x ≡ o → Contains (cons_option o (filter_map f xs)) y → (Contains (filter_map f xs) y → (z : X) × Contains xs z × (f z ≡ Some y)) → (z : X) × Contains (x ∷ xs) z × (f z ≡ Some y)
    by_option None is in'' rest = let there = rest in'' in (there.0, (suc there.1.0, omega (arith, there.1.1), there.1.2), there.2)
    by_option (Some z) is (zero, low, same) rest = (x, (0, omega arith, refl), is ∙ ap Some same)
    by_option (Some z) is (suc k, low, same) rest = let there = rest (k, omega arith, same) in (there.0, (suc there.1.0, omega (arith, there.1.1), there.1.2), there.2)

chosen_has : {X Y : Type 0} (f : X → Option Y) (xs : List X) (x : X) (y : Y) → Contains xs x → f x ≡ Some y → Contains (filter_map f xs) y
chosen_has f [] x y in' is = absurd (omega (arith, in'.1))
chosen_has f (z ∷ zs) x y (zero, low, same) is = subst (λ o. Contains (cons_option o (filter_map f zs)) y) (sym (ap f same ∙ is)) (0, omega arith, refl)
chosen_has {Y = Y} f (z ∷ zs) x y (suc k, low, same) is = by_option (f z) (chosen_has f zs x y (k, omega arith, same) is)
  where
    by_option : (o : Option Y) → Contains (filter_map f zs) y → Contains (cons_option o (filter_map f zs)) y
    by_option None rest = rest
    by_option (Some w) rest = (suc rest.0, omega (arith, rest.1), rest.2)

-- the first that passes is the one at the first place
found_first : {X : Type 0} (test : X → Bool) (xs : List X) → find test xs ≡ option_and_then (slice_get xs) (first_place test xs)
unfolding first_place
found_first test [] = refl
found_first test (x ∷ xs) = by_test (test x) (first_place test xs) (found_first test xs)
  where
    by_test : (b : Bool) (o : Option ℕ) → find test xs ≡ option_and_then (slice_get xs) o
        → (if b then Some x else find test xs) ≡ option_and_then (slice_get (x ∷ xs)) (if b then Some 0 else option_map suc o)
    by_test true o rest = refl
    by_test false None rest = rest
    by_test false (Some k) rest = rest

-- ---- rows

row_at : (known : Path → Option ℕ) (from : ℕ) (os : List Origin) (i : ℕ) (o : Origin) → slice_get os i ≡ Some o → get_or (places_from known from os) i [] ≡ origin_places known o (from + i)
unfolding places_from
row_at known from [] i o at = absurd (none_some at)
row_at known from (p ∷ os) zero o at = ap (λ q. origin_places known q from) (same_some at) ∙ ap (origin_places known o) (let same : from ≡ from + 0 = omega arith in same)
row_at known from (p ∷ os) (suc i) o at = row_at known (suc from) os i o at ∙ ap (origin_places known o) (let same : suc from + i ≡ from + suc i = omega arith in same)

row_there : (known : Path → Option ℕ) (from : ℕ) (os : List Origin) (i t : ℕ) → Contains (get_or (places_from known from os) i []) t → (o : Origin) × (slice_get os i ≡ Some o)
unfolding places_from
row_there known from [] i t in' = absurd (omega (arith, in'.1))
row_there known from (p ∷ os) zero t in' = (p, refl)
row_there known from (p ∷ os) (suc i) t in' = row_there known (suc from) os i t in'

origin_at : (vs : List Valued) (i : ℕ) (v : Valued) → slice_get vs i ≡ Some v → slice_get (all_origins vs) i ≡ Some v.origin
origin_at [] i v at = absurd (none_some at)
origin_at (w ∷ vs) zero v at = ap (λ (x : Valued). Some x.origin) (same_some at)
origin_at (w ∷ vs) (suc i) v at = origin_at vs i v at

at_origin : (vs : List Valued) (i : ℕ) (o : Origin) → slice_get (all_origins vs) i ≡ Some o → (v : Valued) × (slice_get vs i ≡ Some v)
at_origin [] i o at = absurd (none_some at)
at_origin (w ∷ vs) zero o at = (w, refl)
at_origin (w ∷ vs) (suc i) o at = at_origin vs i o at

in_list : (vs : List Valued) (i : ℕ) (v : Valued) → slice_get vs i ≡ Some v → Contains vs v
in_list [] i v at = absurd (none_some at)
in_list (w ∷ vs) zero v at = (0, omega arith, same_some at)
in_list (w ∷ vs) (suc i) v at = let rest = in_list vs i v at in (suc rest.0, omega (arith, rest.1), rest.2)

module _ (vs : List Valued) (known : Path → Option ℕ) (are_known : AreKnown vs known) (are_low : AreLow vs known) (in_order : StandInOrder vs) where
  -- where an item without a value leads
  behind : (i : ℕ) (v : Valued) (p : Place) → slice_get vs i ≡ Some v → v.origin ≡ item_before p → valued_at vs p ≡ option_and_then (slice_get vs) (place_before i)
  unfolding valued_at
  behind i v p at is =
      found_first (λ w. is_at p w.name.place) vs ∙ ap (option_and_then (slice_get vs)) (subst (λ o. IsBehind vs o i) is (in_order i v at))

  by_option : (o : Option ℕ) (w : Valued) → option_and_then (slice_get vs) o ≡ Some w → (t : ℕ) × (slice_get vs t ≡ Some w) × (o ≡ Some t)
  by_option None w is = absurd (none_some is)
  by_option (Some t) w is = (t, is, refl)

  forth : (i : ℕ) (v w : Valued) (o : Origin) → slice_get vs i ≡ Some v → v.origin ≡ o → Contains (origin_leads_to vs v.scope o) w → (t : ℕ) × (slice_get vs t ≡ Some w) × Contains (origin_places known o i) t
  forth i v w (expression e) at is in' =
      let from = in_flat (λ path. option_to_list (constant_named vs v.scope path)) (expr_paths e) w in' in
      let named = in_option (constant_named vs v.scope from.0) w from.2 in
      let place = by_option (known from.0) w (are_known v (in_list vs i v at) e is from.0 from.1 ∙ named) in
      (place.0, place.1, chosen_has known (expr_paths e) from.0 place.0 from.1 place.2)
  forth i v w first_item at is in' = absurd (omega (arith, in'.1))
  forth i v w (item_before p) at is in' =
      let place = by_option (place_before i) w (sym (behind i v p at is) ∙ in_option (valued_at vs p) w in') in
      (place.0, place.1, option_has (place_before i) place.0 place.2)

  back : (i t : ℕ) (v : Valued) (o : Origin) → slice_get vs i ≡ Some v → v.origin ≡ o → Contains (origin_places known o i) t → (w : Valued) × (slice_get vs t ≡ Some w) × Contains (origin_leads_to vs v.scope o) w
  back i t v (expression e) at is in' =
      let from = in_chosen known (expr_paths e) t in' in
      let there = at_low vs t (are_low from.0 t from.2) in
      let named : constant_named vs v.scope from.0 ≡ Some there.0 = sym (are_known v (in_list vs i v at) e is from.0 from.1) ∙ ap (option_and_then (slice_get vs)) from.2 ∙ there.1 in
      (there.0, there.1, flat_has (λ path. option_to_list (constant_named vs v.scope path)) (expr_paths e) from.0 there.0 from.1 (option_has (constant_named vs v.scope from.0) there.0 named))
  back i t v first_item at is in' = absurd (omega (arith, in'.1))
  back i t v (item_before p) at is in' =
      let place = in_option (place_before i) t in' in
      let there = at_low vs t (before_low i t v at place) in
      (there.0, there.1, option_has (valued_at vs p) there.0 (behind i v p at is ∙ ap (option_and_then (slice_get vs)) place ∙ there.1))
    where
      within : (xs : List Valued) (j : ℕ) (x : Valued) → slice_get xs j ≡ Some x → j < length xs
      within [] j x at' = absurd (none_some at')
      within (y ∷ xs) zero x at' = omega arith
      within (y ∷ xs) (suc j) x at' = let low = within xs j x at' in omega (arith, low)

      before_low : (j k : ℕ) (x : Valued) → slice_get vs j ≡ Some x → place_before j ≡ Some k → k < length vs
      before_low zero k x at' is' = absurd (none_some is')
      before_low (suc j) k x at' is' = let low = within vs (suc j) x at' in let same : j ≡ k = same_some is' in omega (arith, low, same)

-- ---- the graph

pub leads_among : (vs : List Valued) (g : List (List ℕ)) → IsValueGraph vs g → LeadsAmong vs g
unfolding targets leads_to_valued
leads_among vs g it =
    let row : (i : ℕ) (v : Valued) → slice_get vs i ≡ Some v → get_or g i [] ≡ origin_places it.known v.origin i =
    λ i v at.
    ap (λ h. get_or h i []) it.graph_is ∙ row_at it.known 0 (all_origins vs) i v.origin (origin_at vs i v at)
    ∙ ap (origin_places it.known v.origin) (let same : 0 + i ≡ i = omega arith in same) in
    record {
      on = λ i v w at in'.
          let to = forth vs it.known it.are_known it.are_low it.in_order i v w v.origin at refl in' in
          (to.0, to.1, subst (λ ts. Contains ts to.0) (sym (row i v at)) to.2);
      only = λ i t v at in'. back vs it.known it.are_known it.are_low it.in_order i t v v.origin at refl (subst (λ ts. Contains ts t) (row i v at) in');
      within = λ i t in'.
          let there = row_there it.known 0 (all_origins vs) i t (subst (λ h. Contains (get_or h i []) t) it.graph_is in') in
          at_origin vs i there.0 there.1;
    }
