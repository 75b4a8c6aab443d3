-- Types that are paths.
use Rattle.std.proofs.Common.{◌≡◌, ℕ, refl, sym, ap, ◌∙◌, Bool, true, not, ◌&&◌, ◌||◌, List, [], ◌∷◌, ◌++◌, map, append_assoc, append-nil, length, Result, Ok, Err}
use Rattle.std.specs.List.{flat_map}
use Rattle.std.specs.Prelude.{IfOk, OnOk}
use Rattle.std.proofs.lemmas.List.{map-append}
use Rattle.std.proofs.lemmas.List.Concat.{flat_map-cons}
use Rattle.idl_meaning_model.specs.Declarations.{Declared}
use Rattle.idl_meaning_model.specs.Meaning.{name_meant, path_meant, type_meant, type_over}
use Rattle.idl_model.specs.Places.{Place}
use Rattle.idl_model.specs.Trees.{ConstructorParameter, Path, WrittenType, simple, named, sequence_of, no_arguments}
use Rattle.idl_rules_model.specs.TypePlaces.{Standing, at_unless, is_any, is_type_name, kind_may_stand, path_may_stand, place_of_type, wrong_rest}
use Rattle.idl_trees.specs.Types.{place_in}
use Rattle.uno_model.specs.Entities.{Entity}
use Rattle.uno_model.specs.Sound.{is_there}

path_is : (ds : List Declared) (modules : List (List ℕ)) (path : Path) → type_meant ds modules (named path no_arguments) ≡ path_meant ds modules path
unfolding type_meant type_over
path_is ds modules path = refl

pub path_stands : (ds : List Declared) (reg : List Entity) (modules : List (List ℕ)) (s : Standing) (path : Path) (written : WrittenType) (b : Bool)
    → written ≡ named path no_arguments → true ≡ is_there reg is_type_name (name_meant ds modules path) → b ≡ kind_may_stand s (type_meant ds modules written)
    → b ≡ path_may_stand ds reg modules s path
path_stands ds reg modules s path written b is there stands =
    stands ∙ ap (λ w. kind_may_stand s (type_meant ds modules w)) is ∙ ap (kind_may_stand s) (path_is ds modules path)
    ∙ ap (λ t. t && kind_may_stand s (path_meant ds modules path)) there

-- the same of an answer
pub path_told : {E : Type 0} (r : Result Bool E) (ds : List Declared) (reg : List Entity) (modules : List (List ℕ)) (s : Standing) (path : Path) (written : WrittenType)
    → written ≡ named path no_arguments → true ≡ is_there reg is_type_name (name_meant ds modules path) → IfOk r (λ b. b ≡ kind_may_stand s (type_meant ds modules written))
    → IfOk r (λ b. b ≡ path_may_stand ds reg modules s path)
path_told (Ok b) ds reg modules s path written is there stands = path_stands ds reg modules s path written b is there stands
path_told (Err e) ds reg modules s path written is there stands = tt

-- ---- places

pub places_same : (w : WrittenType) → place_in w ≡ place_of_type w
places_same (simple p s) = refl
places_same (named path ts) = refl
places_same (sequence_of p t) = refl

-- ---- `...`

abbrev early : ConstructorParameter → List Place
early p = at_unless (place_of_type p.type) (not p.rest)

abbrev late : List Declared → List (List ℕ) → ConstructorParameter → List Place
late ds modules p = at_unless (place_of_type p.type) (not p.rest || is_any (type_meant ds modules p.type))

one_before : (q : ConstructorParameter) (qs : List ConstructorParameter) (more : List Place) → early q ++ (flat_map early qs ++ more) ≡ flat_map early (q ∷ qs) ++ more
one_before q qs more = sym (append_assoc (early q) (flat_map early qs) more) ∙ ap (λ k. k ++ more) (sym (flat_map-cons early q qs))

last_rest : (ds : List Declared) (modules : List (List ℕ)) (qs : List ConstructorParameter) (p : ConstructorParameter)
    → wrong_rest ds modules (qs ++ p ∷ []) ≡ flat_map early qs ++ late ds modules p
unfolding wrong_rest
last_rest ds modules [] p = refl
last_rest ds modules (q ∷ []) p = one_before q [] (late ds modules p)
last_rest ds modules (q ∷ r ∷ qs) p = ap (λ k. early q ++ k) (last_rest ds modules (r ∷ qs) p) ∙ one_before q (r ∷ qs) (late ds modules p)

-- an answer of something that goes on from what was added before
pub rest_told : {X E : Type 0} (r : Result (Unit {0}) E) (view : X → ConstructorParameter) (ds : List Declared) (modules : List (List ℕ)) (xs others : List X) (x : X) (old now new : List Place)
    → xs ≡ others ++ x ∷ [] → now ≡ old ++ flat_map early (map view others) → OnOk r (new ≡ now ++ late ds modules (view x)) → OnOk r (new ≡ old ++ wrong_rest ds modules (map view xs))
rest_told (Ok u) view ds modules xs others x old now new split so_far more =
    more ∙ ap (λ k. k ++ late ds modules (view x)) so_far ∙ append_assoc old (flat_map early (map view others)) (late ds modules (view x))
    ∙ ap (λ k. old ++ k) (sym (ap (wrong_rest ds modules) (ap (map view) split ∙ map-append view others (x ∷ [])) ∙ last_rest ds modules (map view others) (view x)))
rest_told (Err e) view ds modules xs others x old now new split so_far more = tt

pub none_told : {X : Type 0} (view : X → ConstructorParameter) (ds : List Declared) (modules : List (List ℕ)) (xs : List X) (old : List Place) → length xs ≡ 0
    → old ≡ old ++ wrong_rest ds modules (map view xs)
unfolding wrong_rest
none_told view ds modules [] old none = sym (append-nil old)
none_told view ds modules (x ∷ xs) old none = let bad : ⊥ = cc in absurd bad
