-- One more of a list: origins, names that are told, rows of the graph.
use Rattle.std.proofs.Common.{◌≡◌, refl, sym, ap, ◌∙◌, ℕ, suc, ◌+◌, ◌<◌, Bool, true, false, cond, List, [], ◌∷◌, ◌++◌, length, map, take, get_or, append_assoc, append-nil, Option, None, Some, if◌then◌else◌, arith}
use Rattle.std.proofs.lemmas.List.{length-map, length-take-le, map-append, take_more}
use Rattle.std.specs.BTreeMap as tree
use Rattle.std.specs.BTreeMap.{BTreeMap}
use Rattle.std.specs.List.{cons_option, filter_map, flat_map}
use Rattle.std.specs.Option.{option_to_list}
use Rattle.std.specs.Ordering.{is_eq, nat_cmp, ordering_then}
use Rattle.std.specs.declared.cmp.Ordering.{Ordering}
use Rattle.std.specs.declared.cmp.Ordering.TheVariants.{Less, Equal, Greater}
use Rattle.std.specs.Prelude.{◌&&◌, ◌==◌, nat_lt}
use Rattle.std.proofs.lemmas.Bool.{eqb-true, ltb-true}
use Rattle.idl_meaning_model.specs.Declarations as model
use Rattle.idl_meaning_model.specs.Declarations.{Declared, Valued, all_valued, constant_valued, first_item, items_valued, valued_in}
use Rattle.idl_model.specs.Places.{Place, is_at}
use Rattle.idl_model.specs.Trees.{Path, Item, Constant, Declaration, forward, interface, struct, exception, enum, constants, typedef, new_service, old_service, new_singleton, old_singleton}
use Rattle.idl_names.proofs.UsedLemmas.{last_joined, one_taken}
use Rattle.idl_names.specs.Used.{values_used}
use Rattle.idl_trees.specs.Names.{place_of}
use Rattle.idl_trees.specs.declared.place.Place as code
use Rattle.idl_values.specs.Graph.{origin_places, places_from, used_place}
use Rattle.idl_values.specs.Origins.{AddsOrigins, all_origins, constant_origins, item_origins, origin_behind, origin_of, origins_in, origins_of}
use Rattle.idl_values.specs.Told.{later, mapped_at, number_told}
use Rattle.idl_values.specs.declared.origins.Origin.{Origin}

-- ---- origins

origins_joined : (vs ws : List Valued) → all_origins (vs ++ ws) ≡ all_origins vs ++ all_origins ws
origins_joined vs ws = map-append (λ (v : Valued). v.origin) vs ws

item_origins_are : (d : Declared) (without : model.Origin) (items : List Item) → all_origins (items_valued d without items) ≡ item_origins without items
unfolding items_valued item_origins
item_origins_are d without [] = refl
item_origins_are d without (i ∷ is) = ap (λ os. model.item_origin without i.value ∷ os) (item_origins_are d (model.item_before i.name.place) is)

constant_origins_are : (d : Declared) (cs : List Constant) → all_origins (map (constant_valued d) cs) ≡ constant_origins cs
constant_origins_are d [] = refl
constant_origins_are d (c ∷ cs) = ap (λ os. model.expression c.value ∷ os) (constant_origins_are d cs)

body_origins : (d : Declared) (body : Declaration) → all_origins (valued_in d body) ≡ origins_in body
body_origins d forward = refl
body_origins d (interface base members) = refl
body_origins d (struct base members) = refl
body_origins d (exception base members) = refl
body_origins d (enum items) = item_origins_are d first_item items
body_origins d (constants cs) = constant_origins_are d cs
body_origins d (typedef t) = refl
body_origins d (new_service base constructors) = refl
body_origins d (old_service members) = refl
body_origins d (new_singleton base) = refl
body_origins d (old_singleton service) = refl

pub pushed : (now new : List Origin) (o : Origin) → new ≡ now ++ o ∷ [] → origins_of new ≡ origins_of now ++ origin_of o ∷ []
pushed now new o is = ap origins_of is ∙ map-append origin_of now (o ∷ [])

pub no_declared : (origins : List Origin) → origins ≡ [] → origins_of origins ≡ all_origins (all_valued [])
unfolding all_valued
no_declared origins is = ap origins_of is

pub next_declared : {X : Type 0} (view : X → Declared) (all : List X) (i : ℕ) (x : X) (old new : List Origin) → i < length all → x ≡ get_or all i x → origins_of old ≡ all_origins (all_valued (map view (take i all)))
    → AddsOrigins old (origins_in (view x).body) new → origins_of new ≡ all_origins (all_valued (map view (take (i + 1) all)))
unfolding all_valued
next_declared view all i x old new low is so_far adds =
    let valued = λ (d : Declared). valued_in d d.body in
    adds ∙ ap (λ os. os ++ origins_in (view x).body) so_far ∙ ap (λ os. all_origins (flat_map valued (map view (take i all))) ++ os) (sym (body_origins (view x) (view x).body))
    ∙ sym (origins_joined (flat_map valued (map view (take i all))) (valued (view x)))
    ∙ ap all_origins (sym (ap (flat_map valued) (one_taken view all i x low is) ∙ last_joined valued (map view (take i all)) (view x)))

pub next_constant : {X : Type 0} (view : X → Constant) (all : List X) (i : ℕ) (x : X) (old now new : List Origin) → i < length all → x ≡ get_or all i x → AddsOrigins old (constant_origins (map view (take i all))) now
    → origins_of new ≡ origins_of now ++ model.expression (view x).value ∷ [] → AddsOrigins old (constant_origins (map view (take (i + 1) all))) new
next_constant view all i x old now new low is so_far adds =
    let origin = λ (c : Constant). model.expression c.value in
    adds ∙ ap (λ os. os ++ origin (view x) ∷ []) so_far ∙ append_assoc (origins_of old) (constant_origins (map view (take i all))) (origin (view x) ∷ [])
    ∙ ap (λ os. origins_of old ++ os) (sym (ap (map origin) (one_taken view all i x low is) ∙ map-append origin (map view (take i all)) (view x ∷ [])))

items_joined : (without : model.Origin) (xs : List Item) (x : Item) → item_origins without (xs ++ x ∷ []) ≡ item_origins without xs ++ model.item_origin (origin_behind without xs) x.value ∷ []
unfolding item_origins origin_behind
items_joined without [] x = refl
items_joined without (y ∷ ys) x = ap (λ os. model.item_origin without y.value ∷ os) (items_joined (model.item_before y.name.place) ys x)

behind_last : (without : model.Origin) (xs : List Item) (x : Item) → origin_behind without (xs ++ x ∷ []) ≡ model.item_before x.name.place
unfolding origin_behind
behind_last without [] x = refl
behind_last without (y ∷ ys) x = behind_last (model.item_before y.name.place) ys x

pub no_items : (origins : List Origin) → AddsOrigins origins (item_origins first_item []) origins
unfolding item_origins
no_items origins = sym (append-nil (origins_of origins))

pub first_behind_none : first_item ≡ origin_behind first_item []
unfolding origin_behind
first_behind_none = refl

pub next_item : {X : Type 0} (view : X → Item) (all : List X) (i : ℕ) (x : X) (old now new : List Origin) (o : model.Origin) → i < length all → x ≡ get_or all i x → AddsOrigins old (item_origins first_item (map view (take i all))) now
    → o ≡ origin_behind first_item (map view (take i all)) → origins_of new ≡ origins_of now ++ model.item_origin o (view x).value ∷ [] → AddsOrigins old (item_origins first_item (map view (take (i + 1) all))) new
next_item view all i x old now new o low is so_far behind adds =
    adds ∙ ap (λ os. os ++ model.item_origin o (view x).value ∷ []) so_far ∙ append_assoc (origins_of old) (item_origins first_item (map view (take i all))) (model.item_origin o (view x).value ∷ [])
    ∙ ap (λ os. origins_of old ++ os)
    (ap (λ p. item_origins first_item (map view (take i all)) ++ model.item_origin p (view x).value ∷ []) behind ∙ sym (ap (item_origins first_item) (one_taken view all i x low is) ∙ items_joined first_item (map view (take i all)) (view x)))

pub next_behind : {X : Type 0} (view : X → Item) (all : List X) (i : ℕ) (x : X) → i < length all → x ≡ get_or all i x → model.item_before (view x).name.place ≡ origin_behind first_item (map view (take (i + 1) all))
next_behind view all i x low is = sym (ap (origin_behind first_item) (one_taken view all i x low is) ∙ behind_last first_item (map view (take i all)) (view x))

-- ---- names that are told

later_last : (a b c : Option ℕ) → later a (later b c) ≡ later (later a b) c
later_last a b None = refl
later_last a b (Some n) = refl

told_last : (xs : List (code.Place × ℕ)) (x : code.Place × ℕ) (p : Place) → number_told (xs ++ x ∷ []) p ≡ later (number_told xs p) (if is_at (place_of x.0) p then Some x.1 else None)
unfolding number_told
told_last [] x p = by_one (if is_at (place_of x.0) p then Some x.1 else None)
  where
    by_one : (o : Option ℕ) → later o None ≡ later None o
    by_one None = refl
    by_one (Some n) = refl
told_last (y ∷ ys) x p =
    ap (later (if is_at (place_of y.0) p then Some y.1 else None)) (told_last ys x p)
    ∙ later_last (if is_at (place_of y.0) p then Some y.1 else None) (number_told ys p) (if is_at (place_of x.0) p then Some x.1 else None)

noted_last : (b : Bool) (n : ℕ) (o : Option ℕ) → later o (if b then Some n else None) ≡ cond b (Some n) o
noted_last true n o = refl
noted_last false n o = refl

pub number_nowhere : (numbers : BTreeMap (ℕ × ℕ) ℕ) → tree.IsEmpty numbers → (p : Place) → mapped_at numbers p ≡ None
number_nowhere numbers empty p = rw empty refl

pub nothing_told : (p : Place) → None ≡ number_told [] p
unfolding number_told
nothing_told p = refl

pub next_told : (all : List (code.Place × ℕ)) (i : ℕ) (x : code.Place × ℕ) (now new : Option ℕ) (p : Place) → i < length all → x ≡ get_or all i x → now ≡ number_told (take i all) p
    → new ≡ cond (is_at (place_of x.0) p) (Some x.1) now → new ≡ number_told (take (i + 1) all) p
next_told all i x now new p low is so_far noted =
    noted ∙ ap (cond (is_at (place_of x.0) p) (Some x.1)) so_far ∙ sym (noted_last (is_at (place_of x.0) p) x.1 (number_told (take i all) p)) ∙ sym (told_last (take i all) x p)
    ∙ ap (λ xs. number_told xs p) (sym (take_more all i x low ∙ ap (λ y. take i all ++ y ∷ []) (sym is)))

-- keys of places
abbrev pub key_cmp : ℕ × ℕ → ℕ × ℕ → Ordering
key_cmp x y = ordering_then (nat_cmp x.0 y.0) (nat_cmp x.1 y.1)

both_equal : (a b : Ordering) → is_eq (ordering_then a b) ≡ (is_eq a && is_eq b)
both_equal Less b = refl
both_equal Equal b = refl
both_equal Greater b = refl

same_number : (x y : ℕ) → is_eq (nat_cmp x y) ≡ (x == y)
same_number x y = by_less (nat_lt x y) refl (x == y) refl
  where
    by_less : (less : Bool) → nat_lt x y ≡ less → (same : Bool) → (x == y) ≡ same → is_eq (cond less Less (cond same Equal Greater)) ≡ same
    by_less true is true also = let low = ltb-true x y is in let one = eqb-true x y also in absurd (omega (arith, low, one))
    by_less true is false also = refl
    by_less false is true also = refl
    by_less false is false also = refl

pub noted_at_place : (old new : BTreeMap (ℕ × ℕ) ℕ) (place : code.Place) (w : Option ℕ) → tree.Updates key_cmp old new (place.file, place.byte) w
    → (p : Place) → mapped_at new p ≡ cond (is_at (place_of place) p) w (mapped_at old p)
noted_at_place old new place w up p =
    up.0 (p.file, p.byte) ∙ ap (λ b. cond b w (mapped_at old p)) (both_equal (nat_cmp place.file p.file) (nat_cmp place.byte p.byte) ∙ (λ i. same_number place.file p.file i && same_number place.byte p.byte i))

-- ---- rows

pub filtered_last : {X : Type 0} (f : X → Option ℕ) (xs : List X) (x : X) → filter_map f (xs ++ x ∷ []) ≡ filter_map f xs ++ option_to_list (f x)
filtered_last f [] x = by_one (f x)
  where
    by_one : (o : Option ℕ) → cons_option o [] ≡ option_to_list o
    by_one None = refl
    by_one (Some n) = refl
filtered_last {X = X} f (y ∷ ys) x = ap (cons_option (f y)) (filtered_last f ys x) ∙ by_first (f y)
  where
    by_first : (o : Option ℕ) → cons_option o (filter_map f ys ++ option_to_list (f x)) ≡ cons_option o (filter_map f ys) ++ option_to_list (f x)
    by_first None = refl
    by_first (Some n) = refl

pub next_used : {X Y : Type 0} (view : X → Y) (f : Y → Option ℕ) (all : List X) (i : ℕ) (x : X) (now new : List ℕ) → i < length all → x ≡ get_or all i x → now ≡ filter_map f (map view (take i all)) → new ≡ now ++ option_to_list (f (view x))
    → new ≡ filter_map f (map view (take (i + 1) all))
next_used view f all i x now new low is so_far adds =
    adds ∙ ap (λ ns. ns ++ option_to_list (f (view x))) so_far ∙ sym (ap (filter_map f) (one_taken view all i x low is) ∙ filtered_last f (map view (take i all)) (view x))

-- names that are used as values
pub value_places : (known : Path → Option ℕ) (paths : List Path) → filter_map (used_place known) (values_used paths) ≡ filter_map known paths
value_places known [] = refl
value_places known (p ∷ ps) = ap (cons_option (known p)) (value_places known ps)

rows_last : (known : Path → Option ℕ) (from : ℕ) (os : List model.Origin) (o : model.Origin) → places_from known from (os ++ o ∷ []) ≡ places_from known from os ++ origin_places known o (from + length os) ∷ []
unfolding places_from
rows_last known from [] o = ap (λ n. origin_places known o n ∷ []) (let is : from ≡ from + 0 = omega arith in is)
rows_last known from (p ∷ os) o =
    ap (λ rows. origin_places known p from ∷ rows)
    (rows_last known (suc from) os o ∙ ap (λ n. places_from known (suc from) os ++ origin_places known o n ∷ []) (let is : suc from + length os ≡ from + suc (length os) = omega arith in is))

pub no_rows : (known : Path → Option ℕ) → [] ≡ places_from known 0 []
unfolding places_from
no_rows known = refl

pub next_row : {X : Type 0} (view : X → model.Origin) (known : Path → Option ℕ) (all : List X) (i : ℕ) (x : X) (now new : List (List ℕ)) → i < length all → x ≡ get_or all i x → now ≡ places_from known 0 (map view (take i all))
    → new ≡ now ++ origin_places known (view x) i ∷ [] → new ≡ places_from known 0 (map view (take (i + 1) all))
next_row view known all i x now new low is so_far adds =
    adds ∙ ap (λ rows. rows ++ origin_places known (view x) i ∷ []) so_far
    ∙ ap (λ n. places_from known 0 (map view (take i all)) ++ origin_places known (view x) n ∷ [])
    (let long = length-map (take i all) view ∙ length-take-le i all (omega (arith, low)) in let place : i ≡ 0 + length (map view (take i all)) = omega (arith, long) in place)
    ∙ sym (ap (places_from known 0) (one_taken view all i x low is) ∙ rows_last known 0 (map view (take i all)) (view x))
