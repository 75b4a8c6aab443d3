-- A constant comes back in the search exactly where it leads to itself: in both the places of names stand for the constants.
use Rattle.std.proofs.Common.{◌≡◌, ℕ, zero, suc, Bool, true, false, ◌||◌, List, [], ◌∷◌, map, length, None, Some, Option, refl, sym, ap, ap₂, subst, ◌∙◌, arith, if◌then◌else◌}
use Rattle.std.proofs.lemmas.Bool.{both_ways, and_parts, not-true}
use Rattle.std.proofs.lemmas.List.{length-map}
use Rattle.std.specs.List.{Contains, find, filter_map, list_any, cons_option}
use Rattle.std.specs.Option.{option_to_list}
use Rattle.std.specs.Str.{bytes_eq}
use Rattle.uno_model.specs.Circles.{Leads, step, on}
use Rattle.uno_model.proofs.Options.{same_some}
use Rattle.idl_model.specs.Places.{Place, is_at}
use Rattle.idl_model.specs.Trees.{Path}
use Rattle.idl_meaning_model.specs.ConstantsMeant.{valued_at, origin_leads_to, leads_to_valued}
use Rattle.idl_meaning_model.specs.Declarations.{Scope, Origin, expression, first_item, item_before, Valued, value_name}
use Rattle.idl_meaning_model.specs.FromFiles.{are_apart}
use Rattle.idl_meaning_model.specs.Scopes.{valued_as, first_of, value_names, constant_named}
use Rattle.idl_meaning_model.specs.Uses.{expr_paths}
use Rattle.idl_meaning_model.proofs.EachLaws.{at_each}
use Rattle.idl_meaning_model.proofs.FaultLaws.{same_at, at_itself, in_flat, map_has}
use Rattle.idl_meaning_model.proofs.RegistryLaws.{found_each}
use Rattle.idl_rules_model.specs.Circles.{comes_to, value_comes_back}
use Rattle.idl_rules_model.proofs.CircleLaws.{way_of_search, search_of_way}

-- ---- what a constant leads to is one of the constants

found_there : {X : Type 0} (test : X → Bool) (xs : List X) (x : X) → find test xs ≡ Some x → Contains xs x × (test x ≡ true)
found_there test xs x found = found_each (Contains xs) test xs x (at_each (Contains xs) xs (λ y in'. in')) found

in_option : {X : Type 0} (o : Option X) (x : X) → Contains (option_to_list o) x → o ≡ Some x
in_option None x in' = let bad : ⊥ = omega (arith, in'.1) in absurd bad
in_option (Some y) x (zero, low, is) = ap (λ z. Some z) is
in_option (Some y) x (suc k, low, is) = let bad : ⊥ = omega arith in absurd bad

valued_there : (vs : List Valued) (name : List ℕ) (w : Valued) → valued_as vs name ≡ Some w → Contains vs w
unfolding valued_as
valued_there vs name w found = (found_there (λ v. bytes_eq name (value_name v)) vs w found).0

first_found : (vs : List Valued) (names : List (List ℕ)) (w : Valued) → first_of (filter_map (valued_as vs) names) ≡ Some w → Contains vs w
first_found vs [] w found = let bad : ⊥ = cc in absurd bad
first_found vs (n ∷ ns) w found = by_name (valued_as vs n) refl found (first_found vs ns w)
  where
    by_name : (o : Option Valued) → valued_as vs n ≡ o → first_of (cons_option o (filter_map (valued_as vs) ns)) ≡ Some w → (first_of (filter_map (valued_as vs) ns) ≡ Some w → Contains vs w)
        → Contains vs w
    by_name None is found rest = rest found
    by_name (Some x) is found rest = subst (λ y. Contains vs y) (same_some found) (valued_there vs n x is)

named_there : (vs : List Valued) (scope : Scope) (path : Path) (w : Valued) → constant_named vs scope path ≡ Some w → Contains vs w
unfolding constant_named
named_there vs scope path w found = first_found vs (value_names scope path) w found

placed_there : (vs : List Valued) (place : Place) (w : Valued) → valued_at vs place ≡ Some w → Contains vs w
unfolding valued_at
placed_there vs place w found = (found_there (λ v. is_at place v.name.place) vs w found).0

origin_there : (vs : List Valued) (scope : Scope) (o : Origin) (w : Valued) → Contains (origin_leads_to vs scope o) w → Contains vs w
origin_there vs scope (expression e) w in' =
    let found = in_flat (λ path. option_to_list (constant_named vs scope path)) (expr_paths e) w in' in
    named_there vs scope found.0 w (in_option (constant_named vs scope found.0) w found.2)
origin_there vs scope first_item w in' = let bad : ⊥ = omega (arith, in'.1) in absurd bad
origin_there vs scope (item_before place) w in' = placed_there vs place w (in_option (valued_at vs place) w in')

led_there : (vs : List Valued) (v w : Valued) → Contains (leads_to_valued vs v) w → Contains vs w
unfolding leads_to_valued
led_there vs v w in' = origin_there vs v.scope v.origin w in'

-- ---- a constant is the one at its place

abbrev place_of : Valued → Place
place_of v = v.name.place

-- none that stands before it in the list has its place
unlike : (p : Place) (vs : List Valued) (v : Valued) → list_any (is_at p) (map place_of vs) ≡ false → Contains vs v → is_at p (place_of v) ≡ false
unlike p [] v none in' = let bad : ⊥ = omega (arith, in'.1) in absurd bad
unlike p (w ∷ ws) v none (zero, low, is) = subst (λ x. is_at p (place_of x) ≡ false) is (first (is_at p (place_of w)) none)
  where
    first : (b : Bool) → (b || list_any (is_at p) (map place_of ws)) ≡ false → b ≡ false
    first true none = none
    first false none = refl
unlike p (w ∷ ws) v none (suc k, low, is) = unlike p ws v (rest (is_at p (place_of w)) none) (k, omega arith, is)
  where
    rest : (b : Bool) → (b || list_any (is_at p) (map place_of ws)) ≡ false → list_any (is_at p) (map place_of ws) ≡ false
    rest true none = absurd (both_ways true none refl)
    rest false none = none

at_its_place : (vs : List Valued) (v : Valued) → are_apart (map place_of vs) ≡ true → Contains vs v → valued_at vs (place_of v) ≡ Some v
unfolding valued_at are_apart
at_its_place [] v apart in' = let bad : ⊥ = omega (arith, in'.1) in absurd bad
at_its_place (w ∷ ws) v apart (zero, low, is) =
    let here : is_at (place_of v) (place_of w) ≡ true = subst (λ x. is_at (place_of x) (place_of w) ≡ true) is (at_itself (place_of w)) in
    rw here (ap (λ x. Some x) is)
at_its_place (w ∷ ws) v apart (suc k, low, is) =
    let parts = and_parts _ (are_apart (map place_of ws)) apart in
    let other = unlike (place_of w) ws v (not-true (list_any (is_at (place_of w)) (map place_of ws)) parts.0) (k, omega arith, is) in
    by_test (is_at (place_of v) (place_of w)) refl other (at_its_place ws v parts.1 (k, omega arith, is))
  where
    by_test : (b : Bool) → is_at (place_of v) (place_of w) ≡ b → is_at (place_of w) (place_of v) ≡ false → valued_at ws (place_of v) ≡ Some v
        → (if b then Some w else valued_at ws (place_of v)) ≡ Some v
    by_test true is other rest =
        let one : place_of v ≡ place_of w = same_at (place_of v) (place_of w) is in
        absurd (both_ways (is_at (place_of w) (place_of v)) other (subst (λ p. is_at p (place_of v) ≡ true) one (at_itself (place_of v))))
    by_test false is other rest = rest

-- ---- the graph of places

module _ (vs : List Valued) (apart : are_apart (map place_of vs) ≡ true) where
  abbrev places_of : Option Valued → List Place
  places_of None = []
  places_of (Some v) = map place_of (leads_to_valued vs v)

  unfoldable next_places : Place → List Place
  next_places p = places_of (valued_at vs p)

  next_of : (v : Valued) → Contains vs v → next_places (place_of v) ≡ map place_of (leads_to_valued vs v)
  unfolding next_places
  next_of v in' = ap places_of (at_its_place vs v apart in')

  -- a way of constants is a way of places, and back
  way_of_places : (v w : Valued) → Contains vs v → Leads (leads_to_valued vs) v w → Leads next_places (place_of v) (place_of w)
  way_of_places v w in' (step v' w' on_to) =
      step (place_of v) (place_of w) (subst (λ (ps : List Place). Contains ps (place_of w)) (sym (next_of v in')) (map_has place_of (leads_to_valued vs v) w on_to))
  way_of_places v w in' (on v' u w' on_to rest) =
      on (place_of v) (place_of u) (place_of w) (subst (λ (ps : List Place). Contains ps (place_of u)) (sym (next_of v in')) (map_has place_of (leads_to_valued vs v) u on_to))
      (way_of_places u w (led_there vs v u on_to) rest)

  -- constants of one place are one
  one_constant : (v w : Valued) → Contains vs v → Contains vs w → is_at (place_of v) (place_of w) ≡ true → v ≡ w
  one_constant v w in' also at =
      same_some (sym (at_its_place vs v apart in') ∙ ap (valued_at vs) (same_at (place_of v) (place_of w) at) ∙ at_its_place vs w apart also)

  flipped : (p q : Place) → (is_at p q ≡ true → p ≡ q) × (p ≡ q → is_at p q ≡ true)
  flipped p q = (same_at p q, λ one. subst (λ r. is_at p r ≡ true) one (at_itself p))

  -- where anything is led on from stands a constant
  leading_there : (p q : Place) → Contains (next_places p) q → Contains (map place_of vs) p
  unfolding next_places valued_at
  leading_there p q in' = by_found (valued_at vs p) refl in'
    where
      by_found : (o : Option Valued) → valued_at vs p ≡ o → Contains (places_of o) q → Contains (map place_of vs) p
      by_found None is in'' = let bad : ⊥ = omega (arith, in''.1) in absurd bad
      by_found (Some v) is in'' =
          let here = found_there (λ w. is_at p w.name.place) vs v is in
          subst (λ r. Contains (map place_of vs) r) (sym (same_at p (place_of v) here.1)) (map_has place_of vs v here.0)

  any_same : (f : Place → Bool) (g : Valued → Bool) (ws : List Valued) → ((w : Valued) → Contains ws w → f (place_of w) ≡ g w) → list_any f (map place_of ws) ≡ list_any g ws
  any_same f g [] each = refl
  any_same f g (w ∷ ws) each =
      ap₂ (λ a b. a || b) (each w (0, omega arith, refl)) (any_same f g ws (λ x in'. each x (suc in'.0, omega (arith, in'.1), in'.2)))

  -- the search over places comes to what the one over constants comes to
  comes_same : (wanted : Place → Bool) (steps : ℕ) (v : Valued) → Contains vs v
      → comes_to next_places wanted steps (place_of v) ≡ comes_to (leads_to_valued vs) (λ w. wanted (place_of w)) steps v
  unfolding comes_to
  comes_same wanted zero v in' = refl
  comes_same wanted (suc steps) v in' =
      ap (list_any (λ p. wanted p || comes_to next_places wanted steps p)) (next_of v in')
      ∙ any_same (λ p. wanted p || comes_to next_places wanted steps p) (λ w. wanted (place_of w) || comes_to (leads_to_valued vs) (λ x. wanted (place_of x)) steps w) (leads_to_valued vs v)
      (λ w on_to. ap (λ b. wanted (place_of w) || b) (comes_same wanted steps w (led_there vs v w on_to)))

  -- ---- the law

  pub comes_back : (v : Valued) → Contains vs v → Leads (leads_to_valued vs) v v → value_comes_back vs v ≡ true
  unfolding value_comes_back
  comes_back v in' way =
      sym (comes_same (λ p. is_at p (place_of v)) (length vs) v in')
      ∙ search_of_way is_at flipped (length vs) next_places (map place_of vs) (place_of v) (place_of v) (length-map vs place_of) leading_there (way_of_places v v in' way)

  way_there : (v w : Valued) → Leads (leads_to_valued vs) v w → Contains vs w
  way_there v w (step v' w' on_to) = led_there vs v w on_to
  way_there v w (on v' u w' on_to rest) = way_there u w rest

  pub leads_back : (v : Valued) → Contains vs v → value_comes_back vs v ≡ true → Leads (leads_to_valued vs) v v
  unfolding value_comes_back
  leads_back v in' comes =
      let found = way_of_search (leads_to_valued vs) (λ w. is_at (place_of w) (place_of v)) (length vs) v comes in
      subst (λ w. Leads (leads_to_valued vs) v w) (one_constant found.0 v (way_there v found.0 found.1) in' found.2) found.1
