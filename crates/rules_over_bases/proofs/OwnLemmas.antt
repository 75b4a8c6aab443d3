-- Names that a body declares itself, where code sees its parts and the definitions their plain trees.
use Rattle.std.proofs.Common.{◌≡◌, ℕ, ◌<◌, ◌≤◌, Bool, true, false, List, [], ◌∷◌, ◌++◌, map, take, length, get_or, refl, sym, ap, subst, ◌∙◌}
use Rattle.std.specs.List.{flat_map}
use Rattle.std.specs.Prelude.{Option, Result, IfOk}
use Rattle.std.proofs.lemmas.List.Folds.{flat_map-map}
use Rattle.std.proofs.lemmas.Result.{IfOk-weaker}
use Rattle.uno_model.specs.Registry.{at_most_one}
use Rattle.uno_model.specs.Sound.{all_differ}
use Rattle.uno_model.specs.Uses.{part_names}
use Rattle.uno_entities.specs.Entities.{constructor_of, field_of, part_of}
use Rattle.uno_entities.specs.declared.entity.Constructor.{Constructor}
use Rattle.uno_entities.specs.declared.entity.Field.{Field}
use Rattle.uno_entities.specs.declared.entity.Part.{Part}
use Rattle.registry_text_model.specs.NamesDiffer.{given_differ}
use Rattle.rules_over_bases.specs.Seen.{HasSeen, Sees}
use Rattle.rules_over_bases.specs.declared.seen.Seen.{Seen}
use Rattle.rules_over_bases.proofs.SeenLemmas.{sees_then, sees_stop, sees_all, sees_stop_at, sees_end}

pub names_through : {X Y : Type 0} (name : Y → List ℕ) (view : X → Y) (xs : List X) → map name (map view xs) ≡ map (λ x. name (view x)) xs
names_through name view [] = refl
names_through name view (x ∷ xs) = ap (λ ns. name (view x) ∷ ns) (names_through name view xs)

pub differ_through : {X Y : Type 0} (name : Y → List ℕ) (view : X → Y) (xs : List X) → all_differ (map name (map view xs)) ≡ all_differ (map (λ x. name (view x)) xs)
differ_through name view xs = ap all_differ (names_through name view xs)

-- the names of parameters, and that of a rest parameter behind them
abbrev pub given_names : List Field → Option (List ℕ) → List (List ℕ)
given_names params rest = map (λ f. f.name) params ++ at_most_one rest

given_through : (k : Constructor) → all_differ (given_names k.params.items k.rest) ≡ given_differ (constructor_of k)
given_through k = ap (λ ns. all_differ (ns ++ at_most_one k.rest)) (sym (names_through (λ p. p.name) field_of k.params.items))

pub params_repeat : (k : Constructor) (start new : Seen) (params : List Field) (are_new : Bool) → HasSeen start [] → params ≡ k.params.items
    → Sees start new (map (λ f. f.name) params) are_new → are_new ≡ false → false ≡ given_differ (constructor_of k)
params_repeat k start new params are_new none same sees twins =
    let here = subst (λ (ps : List Field). Sees start new (map (λ f. f.name) ps) are_new) same sees in
    sees_all start new (given_names k.params.items k.rest) false none
    (sees_stop start new (map (λ f. f.name) k.params.items) (at_most_one k.rest) (subst (Sees start new (map (λ f. f.name) k.params.items)) twins here))
    ∙ given_through k

pub rest_differs : {E : Type 0} (k : Constructor) (start mid new : Seen) (params : List Field) (are_new : Bool) (result : Result Bool E) → HasSeen start []
    → params ≡ k.params.items
    → Sees start mid (map (λ f. f.name) params) are_new → are_new ≡ true
    → IfOk result (λ is_new. Sees mid new (at_most_one k.rest) is_new) → IfOk result (λ b. b ≡ given_differ (constructor_of k))
rest_differs k start mid new params are_new result none same before all_new after =
    let here = subst (λ (ps : List Field). Sees start mid (map (λ f. f.name) ps) are_new) same before in
    let first = subst (Sees start mid (map (λ f. f.name) k.params.items)) all_new here in
    IfOk-weaker result _ _
    (λ is_new sees.
    sees_all start new (given_names k.params.items k.rest) is_new none (sees_then start mid new (map (λ f. f.name) k.params.items) (at_most_one k.rest) is_new first sees)
    ∙ given_through k)
    after

-- the names of the parts of a service
abbrev pub row_of_part : Part → List (List ℕ)
row_of_part p = part_names (part_of p)

parts_through : (parts : List Part) → all_differ (flat_map row_of_part parts) ≡ all_differ (flat_map part_names (map part_of parts))
parts_through parts = ap all_differ (sym (flat_map-map part_names part_of parts))

pub parts_repeat : (parts : List Part) (i : ℕ) (p : Part) (start mid new : Seen) (is_new : Bool) → HasSeen start [] → i < length parts → p ≡ get_or parts i p
    → Sees start mid (flat_map row_of_part (take i parts)) true → Sees mid new (row_of_part p) is_new → is_new ≡ false
    → false ≡ all_differ (flat_map part_names (map part_of parts))
parts_repeat parts i p start mid new is_new none within is before after twins =
    sees_all start new (flat_map row_of_part parts) false none (sees_stop_at row_of_part parts i p start mid new is_new within is before after twins)
    ∙ parts_through parts

pub parts_end : (parts : List Part) (i : ℕ) (start new : Seen) → HasSeen start [] → length parts ≤ i → Sees start new (flat_map row_of_part (take i parts)) true
    → true ≡ all_differ (flat_map part_names (map part_of parts))
parts_end parts i start new none over before =
    sees_all start new (flat_map row_of_part parts) true none (sees_end row_of_part parts i start new over before) ∙ parts_through parts
