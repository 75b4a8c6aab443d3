-- What a loop adds for one more declaration.
use Rattle.std.proofs.Common.{◌≡◌, refl, sym, ap, subst, ◌∙◌, ℕ, zero, suc, ◌+◌, ◌<◌, List, [], ◌∷◌, ◌++◌, map, length, take, get_or, append-nil, append_assoc, Option, None, Some, arith}
use Rattle.std.proofs.lemmas.List.{get_or_default, map-append}
use Rattle.std.proofs.lemmas.List.Elements.{filter_map-append}
use Rattle.std.specs.List.{cons_option, filter_map, flat_map}
use Rattle.std.specs.Option.{option_to_list}
use Rattle.idl_meaning_model.specs.Declarations.{Declared, Origin, Valued, all_valued, constant_valued, first_item, item_before, items_valued, valued_in}
use Rattle.idl_model.specs.Trees as tree
use Rattle.idl_names.specs.Collected.{declared_of}
use Rattle.idl_names.specs.Paths.{Parts}
use Rattle.idl_names.specs.declared.declaration.Declared as code
use Rattle.idl_places.proofs.Steps.{Tells, told_behind}
use Rattle.idl_places.specs.Places.{AddsPlaces, places_of}
use Rattle.idl_trees.specs.Trees.{declaration_of}
use Rattle.idl_trees.specs.declared.place.Place as placing
use Rattle.idl_model.specs.Places.{Place}
use Rattle.idl_joint_places.specs.Circles.{numbered, value_places_in}

picked : {X Y : Type 0} (f : X → Option Y) (x : X) → filter_map f (x ∷ []) ≡ option_to_list (f x)
picked {Y = Y} f x = by_value (f x)
  where
    by_value : (o : Option Y) → cons_option o [] ≡ option_to_list o
    by_value None = refl
    by_value (Some y) = refl

pub picked_tells : {X Y : Type 0} (f : X → Option Y) → Tells (filter_map f) (λ x. option_to_list (f x))
picked_tells f xs x = filter_map-append f xs (x ∷ []) ∙ ap (λ k. filter_map f xs ++ k) (picked f x)

pub mapped_tells : {X Y : Type 0} (f : X → Y) → Tells (map f) (λ x. f x ∷ [])
mapped_tells f xs x = map-append f xs (x ∷ [])

pub mapped_flat_tells : {X Y Z : Type 0} (g : Y → Z) (f : X → List Y) → Tells (λ xs. map g (flat_map f xs)) (λ x. map g (f x))
mapped_flat_tells g f [] x = ap (map g) (append-nil (f x))
mapped_flat_tells g f (y ∷ ys) x =
    map-append g (f y) (flat_map f (ys ++ x ∷ [])) ∙ ap (λ k. map g (f y) ++ k) (mapped_flat_tells g f ys x)
    ∙ sym (append_assoc (map g (f y)) (map g (flat_map f ys)) (map g (f x))) ∙ ap (λ k. k ++ map g (f x)) (sym (map-append g (f y) (flat_map f ys)))

-- ---- numbers of places

numbered_both : (n : ℕ) (ps : List Place) (p : Place) → numbered n (ps ++ p ∷ []) ≡ numbered n ps ++ (n + length ps, p) ∷ []
unfolding numbered
numbered_both n [] p = let same : n ≡ n + 0 = omega arith in ap (λ k. (k, p) ∷ []) same
numbered_both n (q ∷ qs) p =
    let same : suc n + length qs ≡ n + suc (length qs) = omega arith in
    ap (λ k. (n, q) ∷ k) (numbered_both (suc n) qs p ∙ ap (λ k. numbered (suc n) qs ++ (k, p) ∷ []) same)

long_taken : {X Y : Type 0} (view : X → Y) (xs : List X) (i : ℕ) → i < length xs → i ≡ length (map view (take i xs))
long_taken view [] i low = absurd (omega (arith, low))
long_taken view (y ∷ ys) zero low = refl
long_taken view (y ∷ ys) (suc i) low = let rest = long_taken view ys i (omega (arith, low)) in omega (arith, rest)

taken_more : {X Y : Type 0} (view : X → Y) (xs : List X) (i : ℕ) (x : X) → i < length xs → x ≡ get_or xs i x → map view (take (suc i) xs) ≡ map view (take i xs) ++ view x ∷ []
taken_more view [] i x low is = absurd (omega (arith, low))
taken_more view (y ∷ ys) zero x low is = ap (λ z. view z ∷ []) (sym is)
taken_more view (y ∷ ys) (suc i) x low is = ap (λ zs. view y ∷ zs) (taken_more view ys i x (omega (arith, low)) is)

next_is : (i : ℕ) → suc i ≡ i + 1
next_is i = omega arith

pub one_taken : {X Y : Type 0} (view : X → Y) (xs : List X) (i : ℕ) (x : X) → i < length xs → x ≡ get_or xs i x → map view (take (i + 1) xs) ≡ map view (take i xs) ++ view x ∷ []
one_taken view xs i x low is = subst (λ n. map view (take n xs) ≡ map view (take i xs) ++ view x ∷ []) (next_is i) (taken_more view xs i x low is)

from_zero : (n : ℕ) → n ≡ 0 + n
from_zero n = omega arith

numbered_more : {X : Type 0} (view : X → Place) (xs : List X) (i : ℕ) (x : X) (now new : List (ℕ × Place)) → i < length xs → x ≡ get_or xs i x
    → now ≡ numbered 0 (map view (take i xs)) → new ≡ now ++ (i, view x) ∷ [] → new ≡ numbered 0 (map view (take (i + 1) xs))
numbered_more view xs i x now new low is so_far more =
    let last : i ≡ 0 + length (map view (take i xs)) = long_taken view xs i low ∙ from_zero (length (map view (take i xs))) in
    more ∙ ap (λ k. k ++ (i, view x) ∷ []) so_far ∙ ap (λ k. numbered 0 (map view (take i xs)) ++ (k, view x) ∷ []) last
    ∙ sym (ap (numbered 0) (one_taken view xs i x low is) ∙ numbered_both 0 (map view (take i xs)) (view x))

numbered_long : (n : ℕ) (ps : List Place) → length (numbered n ps) ≡ length ps
unfolding numbered
numbered_long n [] = refl
numbered_long n (p ∷ ps) = ap suc (numbered_long (suc n) ps)

numbered_next : {X : Type 0} (view : X → Place) (xs : List X) (i : ℕ) (x : X) (now new : List (ℕ × Place)) (n : ℕ) → i < length xs → x ≡ get_or xs i x → n ≡ length now
    → now ≡ numbered 0 (map view (take i xs)) → new ≡ now ++ (n, view x) ∷ [] → new ≡ numbered 0 (map view (take (i + 1) xs))
numbered_next view xs i x now new n low is many so_far more =
    let same : n ≡ i = many ∙ ap length so_far ∙ numbered_long 0 (map view (take i xs)) ∙ sym (long_taken view xs i low) in
    numbered_more view xs i x now new low is so_far (more ∙ ap (λ k. now ++ (k, view x) ∷ []) same)

pub numbered_read : {X : Type 0} (view : X → Place) (xs : List X) (i : ℕ) (d : X) (now new : List (ℕ × Place)) (n : ℕ) → i < length xs → n ≡ length now
    → now ≡ numbered 0 (map view (take i xs)) → new ≡ now ++ (n, view (get_or xs i d)) ∷ [] → new ≡ numbered 0 (map view (take (i + 1) xs))
numbered_read view xs i d now new n low many so_far more =
    numbered_next view xs i (get_or xs i d) now new n low (get_or_default xs i d (get_or xs i d) low) many so_far more

pub no_number : [] ≡ numbered 0 []
unfolding numbered
no_number = refl

-- ---- places of constants and items

items_placed : (d : Declared) (without : Origin) (items : List tree.Item) → map (λ (v : Valued). v.name.place) (items_valued d without items) ≡ map (λ (i : tree.Item). i.name.place) items
unfolding items_valued
items_placed d without [] = refl
items_placed d without (i ∷ is) = ap (λ ps. i.name.place ∷ ps) (items_placed d (item_before i.name.place) is)

constants_placed : (d : Declared) (cs : List tree.Constant) → map (λ (v : Valued). v.name.place) (map (constant_valued d) cs) ≡ map (λ (k : tree.Constant). k.name.place) cs
constants_placed d [] = refl
constants_placed d (k ∷ ks) = ap (λ ps. k.name.place ∷ ps) (constants_placed d ks)

placed : (d : Declared) (body : tree.Declaration) → map (λ (v : Valued). v.name.place) (valued_in d body) ≡ value_places_in body
placed d (tree.constants cs) = constants_placed d cs
placed d (tree.enum items) = items_placed d first_item items
placed d _ = refl

pub values_added : (paths : List Parts) (all : List code.Declared) (i : ℕ) (d : code.Declared) (now new : List placing.Place) → i < length all → d ≡ get_or all i d
    → places_of now ≡ map (λ (v : Valued). v.name.place) (all_valued (map (declared_of paths) (take i all))) → AddsPlaces now (value_places_in (declaration_of d.body.now)) new
    → places_of new ≡ map (λ (v : Valued). v.name.place) (all_valued (map (declared_of paths) (take (i + 1) all)))
unfolding all_valued
values_added paths all i d now new low is so_far adds =
    told_behind (λ ds. map (λ (v : Valued). v.name.place) (flat_map (λ (e : Declared). valued_in e e.body) ds)) (λ e. map (λ (v : Valued). v.name.place) (valued_in e e.body))
    (mapped_flat_tells (λ (v : Valued). v.name.place) (λ (e : Declared). valued_in e e.body)) (declared_of paths) all i d [] (places_of now) (places_of new) low is so_far
    (adds ∙ ap (λ ps. places_of now ++ ps) (sym (placed (declared_of paths d) (declaration_of d.body.now))))

pub no_valued : {places : List placing.Place} → places ≡ [] → places_of places ≡ map (λ (v : Valued). v.name.place) (all_valued [])
unfolding all_valued
no_valued is = ap places_of is
