-- Names of entities that declarations use: all are held, each with its number at its place.
use Rattle.std.proofs.Common.{◌≡◌, refl, sym, ap, subst, ◌∙◌, ℕ, zero, suc, ◌+◌, ◌<◌, ◌==◌, Bool, true, false, not, ◌&&◌, ◌||◌, List, [], ◌∷◌, ◌++◌, length, map, take, get_or, slice_get, Option, None, Some, Contains, ◌⊎◌, inl, inr, if◌then◌else◌, append_assoc, arith}
use Rattle.std.proofs.lemmas.Bool.{and_from, and_parts, both_ways, eq-eqb, eqb-true, not-true, or_parts}
use Rattle.std.proofs.lemmas.Grind.{flat_map-append}
use Rattle.std.proofs.lemmas.List.{length-take-le, map-append, take_more}
use Rattle.std.proofs.lemmas.Option.{get_or_from_slice_get, slice_get-get_or, slice_get_within}
use Rattle.std.proofs.lemmas.Slice.Eq.{bytes_eq-Decides, slice_eq-Decides}
use Rattle.std.specs.Cmp.Lexicographic.{pointwise}
use Rattle.std.specs.List.{flat_map, list_any}
use Rattle.std.specs.Option.{option_and_then}
use Rattle.std.specs.Str.{bytes_eq}
use Rattle.idl_meaning_model.specs.Declarations.{Scope, scope_of}
use Rattle.idl_meaning_model.specs.FromFiles.{are_apart}
use Rattle.idl_meaning_model.specs.Uses.{Used, an_entity, a_value, used_in, uses, uses_of}
use Rattle.idl_meaning_model.specs.Uses as model
use Rattle.idl_meaning_model.proofs.FaultLaws.{at_itself, flat_has, in_flat, in_map, map_has, same_at}
use Rattle.idl_meant.specs.Matching.{same_path, same_truth}
use Rattle.idl_meant.specs.Resolving.{AreTold, all_in}
use Rattle.idl_meant.specs.Using.{AddsUses, AreHeld, IsUsed, entity_use, entity_uses, numbered_from, use_at, use_of, use_place}
use Rattle.idl_meant.specs.declared.uses.Use.{Use}
use Rattle.idl_meant.specs.declared.uses.Uses.{Uses}
use Rattle.idl_model.specs.Places.{Place, is_at}
use Rattle.idl_model.specs.Trees.{Path}
use Rattle.idl_names.specs.Collected.{declared_of}
use Rattle.idl_names.specs.Paths.{Parts}
use Rattle.idl_names.specs.declared.declaration.Declared.{Declared}
use Rattle.idl_names.specs.declared.resolving.Resolved.{Resolved}
use Rattle.idl_names.proofs.UsedLemmas.{last_joined, one_joined}
use Rattle.idl_trees.specs.Names.{path_of}
use Rattle.idl_trees.specs.Trees.{declaration_of}
use Rattle.idl_trees.specs.declared.place.Place as code
use Rattle.idl_values.specs.Told.{later, number_told}
use Rattle.idl_values.proofs.ToldLemmas.{uses_apart}

none_some : {X : Type 0} {x : X} → None ≡ Some x → ⊥
none_some is = cc

same_some : {X : Type 0} (x y : X) → Some x ≡ Some y → x ≡ y
same_some x y is = cc

-- ---- paths that are the same

same_truths : (a b : Bool) → same_truth a b ≡ true → a ≡ b
same_truths true true is = refl
same_truths true false is = let bad : ⊥ = cc in absurd bad
same_truths false false is = refl
same_truths false true is = let bad : ⊥ = cc in absurd bad

truth_itself : (a : Bool) → same_truth a a ≡ true
truth_itself true = refl
truth_itself false = refl

one_path : (p q : Path) → same_path p q ≡ true → p ≡ q
one_path p q is =
    let last = and_parts (((p.place.file == q.place.file) && (p.place.byte == q.place.byte)) && same_truth p.absolute q.absolute) (pointwise bytes_eq p.parts q.parts) is in
    let third = and_parts ((p.place.file == q.place.file) && (p.place.byte == q.place.byte)) (same_truth p.absolute q.absolute) last.0 in
    let both = and_parts (p.place.file == q.place.file) (p.place.byte == q.place.byte) third.0 in
    let file = eqb-true p.place.file q.place.file both.0 in
    let byte = eqb-true p.place.byte q.place.byte both.1 in
    let absolute = same_truths p.absolute q.absolute third.1 in
    let parts = (slice_eq-Decides bytes_eq-Decides p.parts q.parts (pointwise bytes_eq p.parts q.parts) refl).0 last.1 in
    λ i. record { place = record { file = file i; byte = byte i }; absolute = absolute i; parts = parts i }

path_itself : (p : Path) → same_path p p ≡ true
path_itself p =
    and_from (((p.place.file == p.place.file) && (p.place.byte == p.place.byte)) && same_truth p.absolute p.absolute) (pointwise bytes_eq p.parts p.parts)
    (and_from ((p.place.file == p.place.file) && (p.place.byte == p.place.byte)) (same_truth p.absolute p.absolute)
    (and_from (p.place.file == p.place.file) (p.place.byte == p.place.byte) (eq-eqb p.place.file p.place.file refl) (eq-eqb p.place.byte p.place.byte refl)) (truth_itself p.absolute))
    ((slice_eq-Decides bytes_eq-Decides p.parts p.parts (pointwise bytes_eq p.parts p.parts) refl).1 refl)

use_itself : (modules : ℕ) (path : Path) → ((modules == modules) && same_path path path) ≡ true
use_itself modules path = and_from (modules == modules) (same_path path path) (eq-eqb modules modules refl) (path_itself path)

-- ---- one more

pub one_added : (old new : List Use) (u : Use) → new ≡ old ++ u ∷ [] → AddsUses old (use_of u ∷ []) new
one_added old new u adds = ap (map use_of) adds ∙ map-append use_of old (u ∷ [])

pub each_added : {X Y : Type 0} (view : X → Y) (f : Y → List (ℕ × Path)) (xs : List X) (i : ℕ) (x : X) (old now new : List Use) → i < length xs → x ≡ get_or xs i x
    → AddsUses old (flat_map f (map view (take i xs))) now → AddsUses now (f (view x)) new → AddsUses old (flat_map f (map view (take (i + 1) xs))) new
each_added view f xs i x old now new low is so_far added =
    added ∙ ap (λ k. k ++ f (view x)) so_far ∙ append_assoc (map use_of old) (flat_map f (map view (take i xs))) (f (view x))
    ∙ ap (λ k. map use_of old ++ k) (sym (one_joined view f xs i x low is))

taken : {X : Type 0} (xs : List X) (i : ℕ) (x : X) → i < length xs → x ≡ get_or xs i x → take (i + 1) xs ≡ take i xs ++ x ∷ []
taken xs i x low is = take_more xs i x low ∙ ap (λ y. take i xs ++ y ∷ []) (sym is)

pub all_added : (all : List Declared) (i : ℕ) (d : Declared) (now new : List Use) → i < length all → d ≡ get_or all i d → map use_of now ≡ flat_map entity_uses (take i all) → AddsUses now (entity_uses d) new
    → map use_of new ≡ flat_map entity_uses (take (i + 1) all)
all_added all i d now new low is so_far added =
    added ∙ ap (λ k. k ++ entity_uses d) so_far ∙ sym (ap (flat_map entity_uses) (taken all i d low is) ∙ last_joined entity_uses (take i all) d)

-- ---- numbers at places

pub no_number : (us : List Use) → [] ≡ numbered_from 0 (take 0 us)
unfolding numbered_from
no_number us = refl

numbered_behind : (n : ℕ) (us : List Use) (u : Use) → numbered_from n (us ++ u ∷ []) ≡ numbered_from n us ++ (u.path.now.place, n + length us) ∷ []
unfolding numbered_from
numbered_behind n [] u = let same : n ≡ n + 0 = omega arith in λ i. (u.path.now.place, same i) ∷ []
numbered_behind n (v ∷ us) u =
    let same : suc n + length us ≡ n + length (v ∷ us) = omega arith in
    ap (λ xs. (v.path.now.place, n) ∷ xs) (numbered_behind (suc n) us u ∙ (λ i. numbered_from (suc n) us ++ (u.path.now.place, same i) ∷ []))

pub numbered_more : (us : List Use) (i : ℕ) (u : Use) (now new : List (code.Place × ℕ)) (number : ℕ) → i < length us → u ≡ get_or us i u → now ≡ numbered_from 0 (take i us) → number ≡ i
    → new ≡ now ++ (u.path.now.place, number) ∷ [] → new ≡ numbered_from 0 (take (i + 1) us)
numbered_more us i u now new number low is so_far counted adds =
    let long = length-take-le i us (omega (arith, low)) in
    let same : number ≡ 0 + length (take i us) = omega (arith, long, counted) in
    adds ∙ (λ j. so_far j ++ (u.path.now.place, same j) ∷ []) ∙ sym (numbered_behind 0 (take i us) u) ∙ ap (numbered_from 0) (sym (taken us i u low is))

abbrev place_in : Use → Place
place_in u = use_place (use_of u)

not_back : (p q : Place) → is_at p q ≡ false → (b : Bool) → is_at q p ≡ b → b ≡ false
not_back p q none true at = absurd (both_ways (is_at p q) none (subst (λ x. is_at x q ≡ true) (same_at q p at) (at_itself q)))
not_back p q none false at = refl

none_there : (us : List Use) (n : ℕ) (p : Place) → list_any (is_at p) (map use_place (map use_of us)) ≡ false → number_told (numbered_from n us) p ≡ None
unfolding number_told numbered_from
none_there [] n p none = refl
none_there (u ∷ us) n p none =
    let parts = or_parts (is_at p (place_in u)) (list_any (is_at p) (map use_place (map use_of us))) none in
    ap (later (if is_at (place_in u) p then Some n else None)) (none_there us (suc n) p parts.1)
    ∙ ap (λ b. if b then Some n else None) (not_back p (place_in u) parts.0 (is_at (place_in u) p) refl)

held_there : (us : List Use) (n k : ℕ) (u : Use) → are_apart (map use_place (map use_of us)) ≡ true → slice_get us k ≡ Some u → number_told (numbered_from n us) (place_in u) ≡ Some (n + k)
unfolding number_told numbered_from are_apart
held_there [] n k u apart at = absurd (none_some at)
held_there (x ∷ xs) n zero u apart at =
    let parts = and_parts (not (list_any (is_at (place_in x)) (map use_place (map use_of xs)))) (are_apart (map use_place (map use_of xs))) apart in
    let none = not-true (list_any (is_at (place_in x)) (map use_place (map use_of xs))) parts.0 in
    let same : n ≡ n + 0 = omega arith in
    subst (λ v. number_told (numbered_from n (x ∷ xs)) (place_in v) ≡ Some (n + 0)) (same_some x u at)
    (ap (later (if is_at (place_in x) (place_in x) then Some n else None)) (none_there xs (suc n) (place_in x) none) ∙ ap (λ b. if b then Some n else None) (at_itself (place_in x)) ∙ ap Some same)
held_there (x ∷ xs) n (suc k) u apart at =
    let parts = and_parts (not (list_any (is_at (place_in x)) (map use_place (map use_of xs)))) (are_apart (map use_place (map use_of xs))) apart in
    let same : suc n + k ≡ n + suc k = omega arith in
    ap (later (if is_at (place_in x) (place_in u) then Some n else None)) (held_there xs (suc n) k u parts.1 at) ∙ ap Some same

-- ---- what is held is used

only_one : {X : Type 0} (x y : X) → Contains (x ∷ []) y → x ≡ y
only_one x y (zero, low, is) = is
only_one x y (suc k, low, is) = absurd (omega (arith, low))

no_one : {X : Type 0} (x : X) → Contains [] x → ⊥
no_one x (k, low, is) = omega (arith, low)

use_held : (all : List Declared) (modules : ℕ) (path : Path) → Contains (flat_map entity_uses all) (modules, path) → IsUsed all modules path
use_held all modules path in' =
    let d = in_flat entity_uses all (modules, path) in' in
    let u = in_flat (entity_use d.0.modules) (used_in (declaration_of d.0.body.now)) (modules, path) d.2 in
    by_use d.0 d.1 u.0 u.1 u.2
  where
    by_use : (d : Declared) → Contains all d → (u : Used) → Contains (used_in (declaration_of d.body.now)) u → Contains (entity_use d.modules u) (modules, path) → IsUsed all modules path
    by_use d there (an_entity own) used here =
        let one = only_one (d.modules, own) (modules, path) here in
        record {
          declared = d;
          there = there;
          modules_are = ap (λ (x : ℕ × Path). x.0) one;
          used = subst (λ p. Contains (used_in (declaration_of d.body.now)) (an_entity p)) (ap (λ (x : ℕ × Path). x.1) one) used;
        }
    by_use d there (a_value own) used here = absurd (no_one (modules, path) here)

used_held : (all : List Declared) (modules : ℕ) (path : Path) → IsUsed all modules path → Contains (flat_map entity_uses all) (modules, path)
used_held all modules path it =
    flat_has entity_uses all it.declared (modules, path) it.there
    (flat_has (entity_use it.declared.modules) (used_in (declaration_of it.declared.body.now)) (an_entity path) (modules, path) it.used (0, omega arith, λ i. (it.modules_are i, path)))

found_in : (us : List Use) (u : Use) (o : Option ℕ) → Some u ≡ option_and_then (slice_get us) o → Contains us u
found_in us u None is = absurd (none_some (sym is))
found_in us u (Some k) is = (k, slice_get_within us k u (sym is), get_or_from_slice_get us k u u (sym is))

-- a use that is found there with the same modules and identifiers tells that the path is used
pub found_used : (all : List Declared) (held : Uses) (u : Use) (modules : ℕ) (path : Path) (p : Place) → AreHeld all held → Some u ≡ use_at held p → ((u.modules == modules) && same_path (path_of u.path.now) path) ≡ true
    → IsUsed all modules path
found_used all held u modules path p are at is =
    let parts = and_parts (u.modules == modules) (same_path (path_of u.path.now) path) is in
    let modules_are = eqb-true u.modules modules parts.0 in
    let path_is = one_path (path_of u.path.now) path parts.1 in
    let in' = map_has use_of held.all.items u (found_in held.all.items u _ at) in
    use_held all modules path (subst (Contains (flat_map entity_uses all)) (λ i. (modules_are i, path_is i)) (subst (λ (xs : List (ℕ × Path)). Contains xs (use_of u)) are.are in'))

record IsFound (held : Uses) (modules : ℕ) (path : Path) : Type 0 where
  found : Use
  at : use_at held path.place ≡ Some found
  is : use_of found ≡ (modules, path)

used_found : (all : List Declared) (held : Uses) (modules : ℕ) (path : Path) → AreHeld all held → are_apart (map use_place (flat_map entity_uses all)) ≡ true → IsUsed all modules path → IsFound held modules path
used_found all held modules path are apart it =
    let us = held.all.items in
    let in' = in_map use_of us (modules, path) (subst (λ (xs : List (ℕ × Path)). Contains xs (modules, path)) (sym are.are) (used_held all modules path it)) in
    let k = in'.1.0 in
    let at = slice_get-get_or us k in'.0 in'.1.1 ∙ ap Some in'.1.2 in
    let told = held_there us 0 k in'.0 (subst (λ (xs : List (ℕ × Path)). are_apart (map use_place xs) ≡ true) (sym are.are) apart) at in
    let first : 0 + k ≡ k = omega arith in
    record {
      found = in'.0;
      at = ap (option_and_then (slice_get us)) (are.placed path.place ∙ ap (number_told (numbered_from 0 us)) (sym (ap use_place in'.2)) ∙ told ∙ ap Some first) ∙ at;
      is = in'.2;
    }

-- a path that is used is found there, with the same modules and identifiers
pub used_is_found : (all : List Declared) (held : Uses) (u : Use) (modules : ℕ) (path : Path) → AreHeld all held → are_apart (map use_place (flat_map entity_uses all)) ≡ true → IsUsed all modules path
    → Some u ≡ use_at held path.place → ((u.modules == modules) && same_path (path_of u.path.now) path) ≡ true
used_is_found all held u modules path are apart used at =
    let it = used_found all held modules path are apart used in
    let one = same_some u it.found (at ∙ it.at) in
    subst (λ (x : ℕ × Path). ((x.0 == modules) && same_path x.1 path) ≡ true) (sym (ap use_of one ∙ it.is)) (use_itself modules path)

pub used_is_somewhere : (all : List Declared) (held : Uses) (modules : ℕ) (path : Path) → AreHeld all held → are_apart (map use_place (flat_map entity_uses all)) ≡ true → IsUsed all modules path → None ≡ use_at held path.place → ⊥
used_is_somewhere all held modules path are apart used none = let it = used_found all held modules path are apart used in none_some (none ∙ it.at)

-- ---- no two stand at one place

abbrev IsFew : {X Y : Type 0} → (X → Place) → (Y → Place) → List Y → X → Type 0
IsFew {X} {Y} at to ys x = (ys ≡ []) ⊎ ((y : Y) × (ys ≡ y ∷ []) × (to y ≡ at x))

module _ {X Y : Type 0} (at : X → Place) (to : Y → Place) (f : X → List Y) (few : (x : X) → IsFew at to (f x) x) where
  none_kept : (p : Place) (xs : List X) → list_any (is_at p) (map at xs) ≡ false → list_any (is_at p) (map to (flat_map f xs)) ≡ false
  none_kept p [] none = refl
  none_kept p (x ∷ xs) none = let parts = or_parts (is_at p (at x)) (list_any (is_at p) (map at xs)) none in by_few (f x) (few x) parts.0 (none_kept p xs parts.1)
    where
      by_few : (ys : List Y) → IsFew at to ys x → is_at p (at x) ≡ false → list_any (is_at p) (map to (flat_map f xs)) ≡ false → list_any (is_at p) (map to (ys ++ flat_map f xs)) ≡ false
      by_few ys (inl none') here rest = ap (λ (zs : List Y). list_any (is_at p) (map to (zs ++ flat_map f xs))) none' ∙ rest
      by_few ys (inr (y, one, same)) here rest =
          ap (λ (zs : List Y). list_any (is_at p) (map to (zs ++ flat_map f xs))) one
          ∙ ap (λ b. b || list_any (is_at p) (map to (flat_map f xs))) (ap (is_at p) same ∙ here) ∙ rest

  few_apart : (xs : List X) → are_apart (map at xs) ≡ true → are_apart (map to (flat_map f xs)) ≡ true
  unfolding are_apart
  few_apart [] apart = refl
  few_apart (x ∷ xs) apart =
      let parts = and_parts (not (list_any (is_at (at x)) (map at xs))) (are_apart (map at xs)) apart in
      by_few (f x) (few x) (not-true (list_any (is_at (at x)) (map at xs)) parts.0) (few_apart xs parts.1)
    where
      by_few : (ys : List Y) → IsFew at to ys x → list_any (is_at (at x)) (map at xs) ≡ false → are_apart (map to (flat_map f xs)) ≡ true → are_apart (map to (ys ++ flat_map f xs)) ≡ true
      by_few ys (inl none) here rest = ap (λ (zs : List Y). are_apart (map to (zs ++ flat_map f xs))) none ∙ rest
      by_few ys (inr (y, one, same)) here rest =
          ap (λ (zs : List Y). are_apart (map to (zs ++ flat_map f xs))) one
          ∙ and_from (not (list_any (is_at (to y)) (map to (flat_map f xs)))) (are_apart (map to (flat_map f xs)))
          (ap not (ap (λ q. list_any (is_at q) (map to (flat_map f xs))) same ∙ none_kept (at x) xs here)) rest

abbrev tagged : Declared → List (ℕ × Used)
tagged d = map (λ u. (d.modules, u)) (used_in (declaration_of d.body.now))

abbrev entity_of : ℕ × Used → List (ℕ × Path)
entity_of x = entity_use x.0 x.1

abbrev place_at : ℕ × Used → Place
place_at x = (model.path_of x.1).place

few_of : (x : ℕ × Used) → IsFew place_at use_place (entity_of x) x
few_of (modules, an_entity path) = inr ((modules, path), refl, refl)
few_of (modules, a_value path) = inl refl

own_uses : (modules : ℕ) (us : List Used) → flat_map entity_of (map (λ u. (modules, u)) us) ≡ flat_map (entity_use modules) us
own_uses modules [] = refl
own_uses modules (u ∷ us) = ap (λ xs. entity_use modules u ++ xs) (own_uses modules us)

all_tagged : (all : List Declared) → flat_map entity_of (flat_map tagged all) ≡ flat_map entity_uses all
all_tagged [] = refl
all_tagged (d ∷ ds) = flat_map-append entity_of (tagged d) (flat_map tagged ds) ∙ (λ i. own_uses d.modules (used_in (declaration_of d.body.now)) i ++ all_tagged ds i)

abbrev model_place : model.Use → Place
model_place u = (model.path_of u.used).place

abbrev use_in : Scope → Used → model.Use
use_in scope u = record { scope = scope; used = u }

own_places : (modules : ℕ) (scope : Scope) (us : List Used) → map place_at (map (λ u. (modules, u)) us) ≡ map model_place (map (use_in scope) us)
own_places modules scope [] = refl
own_places modules scope (u ∷ us) = ap (λ ps. (model.path_of u).place ∷ ps) (own_places modules scope us)

tagged_places : (paths : List Parts) (all : List Declared) → map place_at (flat_map tagged all) ≡ map model_place (uses (map (declared_of paths) all))
unfolding uses uses_of
tagged_places paths [] = refl
tagged_places paths (d ∷ ds) =
    map-append place_at (tagged d) (flat_map tagged ds)
    ∙ (λ i. own_places d.modules (scope_of (declared_of paths d)) (used_in (declaration_of d.body.now)) i ++ tagged_places paths ds i)
    ∙ sym (map-append model_place (uses_of (declared_of paths d)) (uses (map (declared_of paths) ds)))

pub entities_apart : (r : Resolved) → AreTold r → are_apart (map use_place (flat_map entity_uses r.declared.items)) ≡ true
entities_apart r it =
    subst (λ (xs : List (ℕ × Path)). are_apart (map use_place xs) ≡ true) (all_tagged r.declared.items)
    (few_apart place_at use_place entity_of few_of (flat_map tagged r.declared.items) (ap are_apart (tagged_places r.paths r.declared.items) ∙ uses_apart (all_in r) it.apart))
