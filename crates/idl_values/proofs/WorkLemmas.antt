-- Values that are worked out behind those to which they lead are the ones that are meant.
use Rattle.std.proofs.Common.{◌≡◌, refl, sym, ap, subst, ◌∙◌, ℕ, zero, suc, ◌+◌, ◌<◌, ◌≤◌, ℤ, List, [], ◌∷◌, ◌++◌, length, map, take, get_or, slice_get, set, replicate, Option, None, Some, Contains, ◌⊎◌, inl, inr, arith}
use Rattle.std.proofs.lemmas.Bool.{cases_eq, cases_lt}
use Rattle.std.proofs.lemmas.List.{get_or-set_other, get_or-set_same, get_or_default, get_or_past, length-replicate, length-set, set_past, take_more}
use Rattle.std.proofs.lemmas.Option.{slice_get_past, slice_get_within, get_or_from_slice_get}
use Rattle.std.specs.List.{cons_option, filter_map}
use Rattle.std.specs.Option.{option_and_then, option_to_list}
use Rattle.std.specs.Result.{result_ok}
use Rattle.uno_model.specs.Circles.{Leads, step, on}
use Rattle.circle_search.specs.Graph.{targets}
use Rattle.graph_order.specs.Order.{EndsFirst}
use Rattle.idl_meaning_model.specs.ConstantsMeant.{leads_to_valued, one_more, origin_leads_to, origin_value, value_meant, valued_at}
use Rattle.idl_meaning_model.specs.Declarations.{Origin, expression, first_item, item_before, Valued}
use Rattle.idl_meaning_model.specs.Scopes.{constant_named}
use Rattle.idl_meaning_model.specs.Uses.{expr_paths}
use Rattle.idl_model.specs.Places.{Place, is_at}
use Rattle.idl_model.specs.Trees.{Path}
use Rattle.idl_values.specs.Graph.{AreKnown, AreLow, IsBehind, StandInOrder, origin_places, place_before, places_from}
use Rattle.idl_values.specs.Known.{AreWorked, known_at, meant_at, origin_known, value_at, value_by}
use Rattle.idl_values.specs.Origins.{all_origins}
use Rattle.idl_values.proofs.PlaceLemmas.{found_at, first_low}
use Rattle.idl_values.proofs.ValueLaws.{circle_has_none, in_flat, in_option, meant_by_others, no_one, of_option, value_same}

-- ---- lists

some_at : {X : Type 0} (xs : List X) (k : ℕ) → k < length xs → (x : X) × (slice_get xs k ≡ Some x)
some_at [] k low = absurd (omega (arith, low))
some_at (x ∷ xs) zero low = (x, refl)
some_at (x ∷ xs) (suc k) low = some_at xs k (omega (arith, low))

of_filter : {X Y : Type 0} (f : X → Option Y) (xs : List X) (y : Y) → Contains (filter_map f xs) y → (x : X) × Contains xs x × (f x ≡ Some y)
of_filter f [] y in' = absurd (no_one y in')
of_filter {X = X} {Y = Y} f (x ∷ xs) y in' = by_one (f x) refl in' (of_filter f xs y)
  where
    later : ((z : X) × Contains xs z × (f z ≡ Some y)) → (z : X) × Contains (x ∷ xs) z × (f z ≡ Some y)
    later it = (it.0, (suc it.1.0, (let low = it.1.1 in omega (arith, low)), it.1.2), it.2)

    by_one : (o : Option Y) → f x ≡ o → Contains (cons_option o (filter_map f xs)) y → (Contains (filter_map f xs) y → (z : X) × Contains xs z × (f z ≡ Some y)) → (z : X) × Contains (x ∷ xs) z × (f z ≡ Some y)
    by_one None is there rest = later (rest there)
    by_one (Some z) is (zero, low, same) rest = (x, (0, omega arith, refl), is ∙ ap Some same)
    by_one (Some z) is (suc k, low, same) rest = later (rest (k, omega (arith, low), same))

in_filter : {X Y : Type 0} (f : X → Option Y) (xs : List X) (x : X) (y : Y) → Contains xs x → f x ≡ Some y → Contains (filter_map f xs) y
in_filter f [] x y in' is = absurd (no_one x in')
in_filter {X = X} {Y = Y} f (z ∷ xs) x y (zero, low, same) is = by_one (f z) (ap f same ∙ is)
  where
    by_one : (o : Option Y) → o ≡ Some y → Contains (cons_option o (filter_map f xs)) y
    by_one None here = let bad : ⊥ = cc in absurd bad
    by_one (Some w) here = (0, omega arith, let one : w ≡ y = cc in one)
in_filter {X = X} {Y = Y} f (z ∷ xs) x y (suc k, low, same) is = by_one (f z) (in_filter f xs x y (k, omega (arith, low), same) is)
  where
    by_one : (o : Option Y) → Contains (filter_map f xs) y → Contains (cons_option o (filter_map f xs)) y
    by_one None there = there
    by_one (Some w) there = (suc there.0, (let it = there.1 in omega (arith, it)), there.2)

-- ---- the graph by places

row_at : (known : Path → Option ℕ) (from n : ℕ) (os : List Origin) (o : Origin) → slice_get os n ≡ Some o → get_or (places_from known from os) n [] ≡ origin_places known o (from + n)
unfolding places_from
row_at known from n [] o at = let bad : ⊥ = cc in absurd bad
row_at known from zero (p ∷ os) o at =
    let same : p ≡ o = cc in
    ap (λ q. origin_places known q from) same ∙ ap (origin_places known o) (let here : from ≡ from + 0 = omega arith in here)
row_at known from (suc n) (p ∷ os) o at = row_at known (suc from) n os o at ∙ ap (origin_places known o) (let here : suc from + n ≡ from + suc n = omega arith in here)

origin_there : (vs : List Valued) (n : ℕ) (v : Valued) → slice_get vs n ≡ Some v → slice_get (all_origins vs) n ≡ Some v.origin
origin_there [] n v at = let bad : ⊥ = cc in absurd bad
origin_there (w ∷ ws) zero v at = let same : w ≡ v = cc in ap (λ (x : Valued). Some x.origin) same
origin_there (w ∷ ws) (suc n) v at = origin_there ws n v at

long_places : (known : Path → Option ℕ) (from : ℕ) (os : List Origin) → length (places_from known from os) ≡ length os
unfolding places_from
long_places known from [] = refl
long_places known from (o ∷ os) = ap suc (long_places known (suc from) os)

long_origins : (vs : List Valued) → length (all_origins vs) ≡ length vs
long_origins [] = refl
long_origins (v ∷ vs) = ap suc (long_origins vs)

module _ (vs : List Valued) (known : Path → Option ℕ) (are : AreKnown vs known) (lows : AreLow vs known) (order_of : StandInOrder vs) where
  abbrev graph : List (List ℕ)
  graph = places_from known 0 (all_origins vs)

  pub long_graph : length graph ≡ length vs
  long_graph = long_places known 0 (all_origins vs) ∙ long_origins vs

  pub targets_at : (n : ℕ) (v : Valued) → slice_get vs n ≡ Some v → targets graph n ≡ origin_places known v.origin n
  unfolding targets
  targets_at n v at = row_at known 0 n (all_origins vs) v.origin (origin_there vs n v at) ∙ ap (origin_places known v.origin) (let here : 0 + n ≡ n = omega arith in here)

  one_there : (n : ℕ) (v : Valued) → slice_get vs n ≡ Some v → Contains vs v
  one_there n v at = (n, slice_get_within vs n v at, get_or_from_slice_get vs n v v at)

  -- the one before an item is the one at its place
  before_is : (p : Place) (n : ℕ) → IsBehind vs (item_before p) n → option_and_then (slice_get vs) (place_before n) ≡ valued_at vs p
  unfolding valued_at
  before_is p n behind = ap (option_and_then (slice_get vs)) (sym behind) ∙ found_at (λ v. is_at p v.name.place) vs

  before_low : (p : Place) (n t : ℕ) → IsBehind vs (item_before p) n → place_before n ≡ Some t → t < length vs
  before_low p n t behind is = first_low (λ v. is_at p v.name.place) vs t (behind ∙ is)

  -- an edge of the graph is a step of the constants and items
  edge_leads : (n : ℕ) (v : Valued) (t : ℕ) → slice_get vs n ≡ Some v → Contains (origin_places known v.origin n) t → (w : Valued) × (slice_get vs t ≡ Some w) × Contains (leads_to_valued vs v) w
  unfolding leads_to_valued
  edge_leads n v t at in' = by_origin v.origin refl in' (order_of n v at)
    where
      by_origin : (o : Origin) → v.origin ≡ o → Contains (origin_places known o n) t → IsBehind vs o n → (w : Valued) × (slice_get vs t ≡ Some w) × Contains (origin_leads_to vs v.scope o) w
      by_origin (expression e) is there behind =
          let found = of_filter known (expr_paths e) t there in
          let one = some_at vs t (lows found.0 t found.2) in
          let named = ap (option_and_then (slice_get vs)) (sym found.2) ∙ are v (one_there n v at) e is found.0 found.1 in (
            one.0,
            one.1,
            in_flat (λ path. option_to_list (constant_named vs v.scope path)) (expr_paths e) found.0 one.0 found.1 (in_option (constant_named vs v.scope found.0) one.0 (sym named ∙ one.1)),
          )
      by_origin first_item is there behind = absurd (no_one t there)
      by_origin (item_before p) is there behind =
          let before = of_option (place_before n) t there in
          let one = some_at vs t (before_low p n t behind before) in
          (one.0, one.1, in_option (valued_at vs p) one.0 (sym (ap (option_and_then (slice_get vs)) (sym before) ∙ before_is p n behind) ∙ one.1))

  -- a way of the graph is a way of constants and items
  way_leads : (i j : ℕ) (v : Valued) → slice_get vs i ≡ Some v → Leads (targets graph) i j → (w : Valued) × (slice_get vs j ≡ Some w) × Leads (leads_to_valued vs) v w
  way_leads i j v at (step i' j' in') =
      let it = edge_leads i v j at (subst (λ ts. Contains ts j) (targets_at i v at) in') in
      (it.0, it.1, step v it.0 it.2)
  way_leads i j v at (on i' k j' in' rest) =
      let it = edge_leads i v k at (subst (λ ts. Contains ts k) (targets_at i v at) in') in
      let further = way_leads k j it.0 it.1 rest in
      (further.0, further.1, on v it.0 further.0 it.2 further.2)

  same_at : (k : ℕ) (v w : Valued) → slice_get vs k ≡ Some v → slice_get vs k ≡ Some w → v ≡ w
  same_at k v w is too = cc

  -- one that leads back to itself has no value
  circle_none : (t : ℕ) (w : Valued) → slice_get vs t ≡ Some w → Leads (targets graph) t t → meant_at vs t ≡ None
  circle_none t w at way =
      let it = way_leads t t w at way in
      ap (option_and_then (value_meant vs)) at ∙ circle_has_none vs w (subst (λ x. Leads (leads_to_valued vs) w x) (same_at t it.0 w it.1 at) it.2)

  joined : (a b c : ℕ) → Leads (targets graph) a b → Contains (targets graph b) c → Leads (targets graph) a c
  joined a b c (step a' b' in') to = on a b c in' (step b c to)
  joined a b c (on a' x b' in' rest) to = on a x c in' (joined x b c rest to)

  -- ---- what is known when one is worked out

  module _ (order : List ℕ) (first : EndsFirst graph order) (i : ℕ) (low : i < length order) (values : List (Option ℤ)) (worked : AreWorked vs (take i order) values)
      (n : ℕ) (here : get_or order i 0 ≡ n) (v : Valued) (at : slice_get vs n ≡ Some v) where
    known_now : (t : ℕ) → Contains (origin_places known v.origin n) t → known_at values t ≡ meant_at vs t
    known_now t in' =
        let it = edge_leads n v t at in' in
        let to : Contains (targets graph n) t = subst (λ ts. Contains ts t) (sym (targets_at n v at)) in' in
        let there = slice_get_within vs t it.0 it.1 in
        let long = long_graph in
        let behind = first.behind i t low (omega (arith, there, long)) (subst (λ m. Contains (targets graph m) t) (sym here) to) in
        by_place it.0 it.1 to (subst (λ m. Contains (take i order) t ⊎ Leads (targets graph) t m) here behind) (worked.others t)
      where
        by_place : (w : Valued) → slice_get vs t ≡ Some w → Contains (targets graph n) t → Contains (take i order) t ⊎ Leads (targets graph) t n
            → (known_at values t ≡ None) ⊎ (known_at values t ≡ meant_at vs t) → known_at values t ≡ meant_at vs t
        by_place w is to (inl done) other = worked.these t done
        by_place w is to (inr back) (inl none) = none ∙ sym (circle_none t w is (joined t n t back to))
        by_place w is to (inr back) (inr right) = right

    by_place_of : (o : Option ℕ) (w : Option Valued) → option_and_then (slice_get vs) o ≡ w → ((t : ℕ) → o ≡ Some t → known_at values t ≡ meant_at vs t)
        → option_and_then (known_at values) o ≡ option_and_then (value_meant vs) w
    by_place_of None w is each = ap (option_and_then (value_meant vs)) is
    by_place_of (Some t) w is each = each t refl ∙ ap (option_and_then (value_meant vs)) is

    origin_is : (o : Origin) → v.origin ≡ o → IsBehind vs o n → ((t : ℕ) → Contains (origin_places known o n) t → known_at values t ≡ meant_at vs t)
        → origin_known known values o n ≡ origin_value (value_meant vs) vs v.scope o
    origin_is (expression e) is behind each =
        ap result_ok (value_same (value_by known values) (λ path. option_and_then (value_meant vs) (constant_named vs v.scope path)) e
        (λ p in'. by_place_of (known p) (constant_named vs v.scope p) (are v (one_there n v at) e is p in') (λ t named. each t (in_filter known (expr_paths e) p t in' named))))
    origin_is first_item is behind each = refl
    origin_is (item_before p) is behind each =
        ap (option_and_then one_more) (by_place_of (place_before n) (valued_at vs p) (before_is p n behind) (λ t named. each t (in_option (place_before n) t named)))

    -- what is worked out of it is what is meant
    pub worked_is : value_at known values (all_origins vs) n ≡ meant_at vs n
    worked_is =
        ap (option_and_then (λ o. origin_known known values o n)) (origin_there vs n v at) ∙ origin_is v.origin refl (order_of n v at) known_now
        ∙ sym (meant_by_others vs v (one_there n v at)) ∙ sym (ap (option_and_then (value_meant vs)) at)

-- ---- one after the other

none_known : {X : Type 0} (x : X) (n k : ℕ) → get_or (replicate n x) k x ≡ x
none_known x zero k = refl
none_known x (suc n) zero = refl
none_known x (suc n) (suc k) = none_known x n k

pub none_worked : (vs : List Valued) (values : List (Option ℤ)) → values ≡ replicate (length vs) None → AreWorked vs [] values
none_worked vs values is = record {
  long = ap length is ∙ length-replicate (length vs) None;
  these = λ k in'. absurd (no_one k in');
  others = λ k. inl (ap (λ xs. get_or xs k None) is ∙ none_known None (length vs) k);
}

pub one_worked : (vs : List Valued) (order : List ℕ) (values : List (Option ℤ)) (i n : ℕ) (r : Option ℤ) → i < length order → n ≡ get_or order i n → AreWorked vs (take i order) values → r ≡ meant_at vs n
    → AreWorked vs (take (i + 1) order) (set values n r)
one_worked vs order values i n r low is worked right = record {
  long = length-set values n r ∙ worked.long;
  these = λ k in'. by_part k (split (take i order) (get_or order i n) k (subst (λ xs. Contains xs k) (take_more order i n low) in')) (cases_eq k n);
  others = λ k. by_other k (cases_eq k n);
}
  where
    now_by : (n < length values) ⊎ (length values ≤ n) → known_at (set values n r) n ≡ meant_at vs n
    now_by (inl there) = get_or-set_same values n r None there ∙ right
    now_by (inr past) =
        ap (λ xs. known_at xs n) (set_past values n r past) ∙ get_or_past values n None past
        ∙ sym (ap (option_and_then (value_meant vs)) (slice_get_past vs n (let long = worked.long in omega (arith, long, past))))

    now : known_at (set values n r) n ≡ meant_at vs n
    now = now_by (cases_lt n (length values))

    split : (xs : List ℕ) (x k : ℕ) → Contains (xs ++ x ∷ []) k → Contains xs k ⊎ (x ≡ k)
    split [] x k (zero, l, same) = inr same
    split [] x k (suc j, l, same) = absurd (omega (arith, l))
    split (y ∷ xs) x k (zero, l, same) = inl (0, omega arith, same)
    split (y ∷ xs) x k (suc j, l, same) = later (split xs x k (j, omega (arith, l), same))
      where
        later : Contains xs k ⊎ (x ≡ k) → Contains (y ∷ xs) k ⊎ (x ≡ k)
        later (inl it) = inl (suc it.0, (let more = it.1 in omega (arith, more)), it.2)
        later (inr same') = inr same'

    by_part : (k : ℕ) → Contains (take i order) k ⊎ (get_or order i n ≡ k) → (k ≡ n) ⊎ (k ≡ n → ⊥) → known_at (set values n r) k ≡ meant_at vs k
    by_part k in' (inl same) = subst (λ m. known_at (set values n r) m ≡ meant_at vs m) (sym same) now
    by_part k (inl old) (inr other) = get_or-set_other values n k r None other ∙ worked.these k old
    by_part k (inr here) (inr other) = absurd (other (sym here ∙ sym is))

    by_other : (k : ℕ) → (k ≡ n) ⊎ (k ≡ n → ⊥) → (known_at (set values n r) k ≡ None) ⊎ (known_at (set values n r) k ≡ meant_at vs k)
    by_other k (inl same) = inr (subst (λ m. known_at (set values n r) m ≡ meant_at vs m) (sym same) now)
    by_other k (inr other) = old (worked.others k)
      where
        old : (known_at values k ≡ None) ⊎ (known_at values k ≡ meant_at vs k) → (known_at (set values n r) k ≡ None) ⊎ (known_at (set values n r) k ≡ meant_at vs k)
        old (inl none) = inl (get_or-set_other values n k r None other ∙ none)
        old (inr right') = inr (get_or-set_other values n k r None other ∙ right')

all_are : (f : Valued → Option ℤ) (ws : List Valued) (values : List (Option ℤ)) → length values ≡ length ws → ((k : ℕ) → k < length ws → get_or values k None ≡ option_and_then f (slice_get ws k)) → values ≡ map f ws
all_are f [] [] long each = refl
all_are f [] (x ∷ xs) long each = absurd (omega (arith, long))
all_are f (w ∷ ws) [] long each = absurd (omega (arith, long))
all_are f (w ∷ ws) (x ∷ xs) long each =
    (λ i. each 0 (omega arith) i ∷ all_are f ws xs (omega (arith, long)) (λ k low. each (suc k) (omega (arith, low))) i)

pub all_worked : (vs : List Valued) (known : Path → Option ℕ) (order : List ℕ) (values : List (Option ℤ)) → EndsFirst (places_from known 0 (all_origins vs)) order → AreWorked vs order values → values ≡ map (value_meant vs) vs
all_worked vs known order values first worked =
    all_are (value_meant vs) vs values worked.long (λ k low. worked.these k (first.all k (let long = long_places known 0 (all_origins vs) ∙ long_origins vs in omega (arith, long, low))))

-- the value that is worked out of one is the one that is meant, also where it is no place
no_origin : (vs : List Valued) (n : ℕ) → slice_get vs n ≡ None → slice_get (all_origins vs) n ≡ None
no_origin [] n is = refl
no_origin (v ∷ vs) zero is = let bad : ⊥ = cc in absurd bad
no_origin (v ∷ vs) (suc n) is = no_origin vs n is

module _ (vs : List Valued) (known : Path → Option ℕ) (are : AreKnown vs known) (lows : AreLow vs known) (order_of : StandInOrder vs) (os : List Origin) (same : os ≡ all_origins vs)
    (order : List ℕ) (first : EndsFirst (places_from known 0 os) order) where
  first_of_all : EndsFirst (places_from known 0 (all_origins vs)) order
  first_of_all = subst (λ xs. EndsFirst (places_from known 0 xs) order) same first

  pub next_value : (i n : ℕ) (values seen new : List (Option ℤ)) (r : Option ℤ) → i < length order → n ≡ get_or order i n → AreWorked vs (take i order) values → seen ≡ values → r ≡ value_at known seen os n
      → new ≡ set values n r → AreWorked vs (take (i + 1) order) new
  next_value i n values seen new r low is worked as_seen right put =
      subst (AreWorked vs (take (i + 1) order)) (sym put)
      (one_worked vs order values i n r low is worked (right ∙ (λ j. value_at known (as_seen j) (same j) n) ∙ by_place (slice_get vs n) refl))
    where
      by_place : (o : Option Valued) → slice_get vs n ≡ o → value_at known values (all_origins vs) n ≡ meant_at vs n
      by_place None none = ap (option_and_then (λ o. origin_known known values o n)) (no_origin vs n none) ∙ sym (ap (option_and_then (value_meant vs)) none)
      by_place (Some v) at =
          worked_is vs known are lows order_of order first_of_all i low values worked n (get_or_default order i 0 n low ∙ sym is) v at

  pub all_values : (values : List (Option ℤ)) → AreWorked vs order values → values ≡ map (value_meant vs) vs
  all_values values worked = all_worked vs known order values first_of_all worked

pub first_worked : (vs : List Valued) (os : List Origin) (values : List (Option ℤ)) (count : ℕ) → os ≡ all_origins vs → count ≡ length os → values ≡ replicate count None → AreWorked vs [] values
first_worked vs os values count same many is = none_worked vs values (is ∙ ap (λ n. replicate n None) (many ∙ ap length same ∙ long_origins vs))
