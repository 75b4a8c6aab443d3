-- An item without a value stands just behind the one whose value it takes on; and the names in expressions are used.
use Rattle.std.proofs.Common.{◌≡◌, refl, sym, ap, subst, ◌∙◌, ℕ, zero, suc, Bool, true, false, not, ◌||◌, List, [], ◌∷◌, ◌++◌, map, slice_get, Option, None, Some, Contains, ◌⊎◌, inl, inr, option_map, if◌then◌else◌, arith}
use Rattle.std.proofs.lemmas.Bool.{and_parts, both_ways, not-true}
use Rattle.std.proofs.lemmas.List.Elements.{Contains-append_left, Contains-append_right}
use Rattle.std.specs.List.{flat_map, list_any}
use Rattle.std.specs.Option.{option_to_list}
use Rattle.idl_meaning_model.specs.Declarations.{Declared, Origin, Scope, expression, first_item, item_before, Valued, all_valued, constant_valued, item_origin, items_valued, scope_of, valued_in}
use Rattle.idl_meaning_model.specs.FromFiles.{are_apart}
use Rattle.idl_meaning_model.specs.Uses.{Used, a_value, entity_paths, expr_paths, type_paths, used_in, uses, uses_of, value_paths}
use Rattle.idl_meaning_model.proofs.FaultLaws.{same_at, at_itself, map_has}
use Rattle.idl_model.specs.Places.{Place, is_at}
use Rattle.idl_model.specs.Trees.{Path, Expr, Item, Constant, Declaration, forward, interface, struct, exception, enum, constants, typedef, new_service, old_service, new_singleton, old_singleton}
use Rattle.idl_values.specs.Graph.{IsBehind, StandInOrder, place_before}
use Rattle.idl_values.specs.Places.{first_place}
use Rattle.idl_values.proofs.ValueLaws.{flat_in, in_flat, no_one}

abbrev place_of : Valued → Place
place_of v = v.name.place

-- ---- one behind the other

-- it may stand behind one at this place
abbrev OriginFrom : Option Place → Origin → Type 0
OriginFrom prev (item_before p) = prev ≡ Some p
OriginFrom prev (expression e) = Unit
OriginFrom prev first_item = Unit

unfoldable Chained : Option Place → List Valued → Type 0
Chained prev [] = Unit
Chained prev (v ∷ vs) = OriginFrom prev v.origin × Chained (Some (place_of v)) vs

chained_both : (prev : Option Place) (xs ys : List Valued) → Chained prev xs → ((q : Option Place) → Chained q ys) → Chained prev (xs ++ ys)
unfolding Chained
chained_both prev [] ys first rest = rest prev
chained_both prev (x ∷ xs) ys first rest = (first.0, chained_both (Some (place_of x)) xs ys first.1 rest)

item_from : (prev : Option Place) (without : Origin) (value : Option Expr) → OriginFrom prev without → OriginFrom prev (item_origin without value)
item_from prev without None from = from
item_from prev without (Some e) from = tt

items_chained : (d : Declared) (without : Origin) (prev : Option Place) (items : List Item) → OriginFrom prev without → Chained prev (items_valued d without items)
unfolding Chained items_valued
items_chained d without prev [] from = tt
items_chained d without prev (i ∷ is) from = (item_from prev without i.value from, items_chained d (item_before i.name.place) (Some i.name.place) is refl)

constants_chained : (d : Declared) (prev : Option Place) (cs : List Constant) → Chained prev (map (constant_valued d) cs)
unfolding Chained
constants_chained d prev [] = tt
constants_chained d prev (c ∷ cs) = (tt, constants_chained d (Some c.name.place) cs)

body_chained : (d : Declared) (body : Declaration) (prev : Option Place) → Chained prev (valued_in d body)
unfolding Chained
body_chained d forward prev = tt
body_chained d (interface base members) prev = tt
body_chained d (struct base members) prev = tt
body_chained d (exception base members) prev = tt
body_chained d (enum items) prev = items_chained d first_item prev items tt
body_chained d (constants cs) prev = constants_chained d prev cs
body_chained d (typedef t) prev = tt
body_chained d (new_service base constructors) prev = tt
body_chained d (old_service members) prev = tt
body_chained d (new_singleton base) prev = tt
body_chained d (old_singleton service) prev = tt

all_chained : (ds : List Declared) (prev : Option Place) → Chained prev (all_valued ds)
unfolding Chained all_valued
all_chained [] prev = tt
all_chained (d ∷ ds) prev = chained_both prev (valued_in d d.body) (flat_map (λ (e : Declared). valued_in e e.body) ds) (body_chained d d.body prev) (λ q. all_chained ds q)

same_some : {X : Type 0} (x y : X) → Some x ≡ Some y → x ≡ y
same_some x y is = cc

from_before : (prev : Option Place) (o : Origin) (p : Place) → OriginFrom prev o → o ≡ item_before p → prev ≡ Some p
from_before prev o p from is = subst (OriginFrom prev) is from

-- the one before is there
record IsBefore (vs : List Valued) (n : ℕ) (p : Place) : Type 0 where
  k : ℕ
  behind : n ≡ suc k
  u : Valued
  there : slice_get vs k ≡ Some u
  at : place_of u ≡ p

abbrev StandsBefore : List Valued → Option Place → ℕ → Place → Type 0
StandsBefore vs prev n p = ((n ≡ 0) × (prev ≡ Some p)) ⊎ IsBefore vs n p

before_there : (vs : List Valued) (prev : Option Place) → Chained prev vs → (n : ℕ) (v : Valued) (p : Place) → slice_get vs n ≡ Some v → v.origin ≡ item_before p → StandsBefore vs prev n p
unfolding Chained
before_there [] prev chained n v p at is = let bad : ⊥ = cc in absurd bad
before_there (w ∷ ws) prev chained zero v p at is = inl (refl, from_before prev w.origin p chained.0 (ap (λ (x : Valued). x.origin) (same_some w v at) ∙ is))
before_there (w ∷ ws) prev chained (suc n) v p at is = later (before_there ws (Some (place_of w)) chained.1 n v p at is)
  where
    later : StandsBefore ws (Some (place_of w)) n p → StandsBefore (w ∷ ws) prev (suc n) p
    later (inl (first, here)) = inr (record { k = 0; behind = ap suc first; u = w; there = refl; at = same_some (place_of w) p here })
    later (inr it) = inr (record { k = suc it.k; behind = ap suc it.behind; u = it.u; there = it.there; at = it.at })

any_there : (test : Place → Bool) (ws : List Valued) (k : ℕ) (u : Valued) → slice_get ws k ≡ Some u → test (place_of u) ≡ true → list_any test (map place_of ws) ≡ true
any_there test [] k u at is = let bad : ⊥ = cc in absurd bad
any_there test (w ∷ ws) zero u at is = first (test (place_of w)) (ap (λ (x : Valued). test (place_of x)) (same_some w u at) ∙ is)
  where
    first : (b : Bool) → b ≡ true → (b || list_any test (map place_of ws)) ≡ true
    first true on = refl
    first false on = let bad : ⊥ = cc in absurd bad
any_there test (w ∷ ws) (suc k) u at is = rest (test (place_of w)) (any_there test ws k u at is)
  where
    rest : (b : Bool) → list_any test (map place_of ws) ≡ true → (b || list_any test (map place_of ws)) ≡ true
    rest true on = refl
    rest false on = on

first_at_place : (vs : List Valued) (k : ℕ) (u : Valued) → are_apart (map place_of vs) ≡ true → slice_get vs k ≡ Some u → first_place (λ v. is_at (place_of u) (place_of v)) vs ≡ Some k
unfolding first_place are_apart
first_at_place [] k u apart at = let bad : ⊥ = cc in absurd bad
first_at_place (w ∷ ws) zero u apart at =
    let here : is_at (place_of u) (place_of w) ≡ true = subst (λ (x : Valued). is_at (place_of x) (place_of w) ≡ true) (same_some w u at) (at_itself (place_of w)) in
    ap (λ b. if b then Some 0 else option_map suc (first_place (λ v. is_at (place_of u) (place_of v)) ws)) here
first_at_place (w ∷ ws) (suc k) u apart at =
    let parts = and_parts (not (list_any (is_at (place_of w)) (map place_of ws))) (are_apart (map place_of ws)) apart in
    by_test (is_at (place_of u) (place_of w)) refl (not-true (list_any (is_at (place_of w)) (map place_of ws)) parts.0) (first_at_place ws k u parts.1 at)
  where
    by_test : (b : Bool) → is_at (place_of u) (place_of w) ≡ b → list_any (is_at (place_of w)) (map place_of ws) ≡ false → first_place (λ v. is_at (place_of u) (place_of v)) ws ≡ Some k
        → (if b then Some 0 else option_map suc (first_place (λ v. is_at (place_of u) (place_of v)) ws)) ≡ Some (suc k)
    by_test true is none rest =
        let one : place_of u ≡ place_of w = same_at (place_of u) (place_of w) is in
        absurd (both_ways (list_any (is_at (place_of w)) (map place_of ws)) none (any_there (is_at (place_of w)) ws k u at (subst (λ p. is_at p (place_of u) ≡ true) one (at_itself (place_of u)))))
    by_test false is none rest = ap (option_map suc) rest

pub stand_in_order : (ds : List Declared) → are_apart (map place_of (all_valued ds)) ≡ true → StandInOrder (all_valued ds)
stand_in_order ds apart n v at = by_origin v.origin refl
  where
    by_before : (p : Place) → StandsBefore (all_valued ds) None n p → first_place (λ w. is_at p w.name.place) (all_valued ds) ≡ place_before n
    by_before p (inl (first, here)) = let bad : ⊥ = cc in absurd bad
    by_before p (inr it) =
        subst (λ q. first_place (λ w. is_at q (place_of w)) (all_valued ds) ≡ place_before n) it.at (first_at_place (all_valued ds) it.k it.u apart it.there ∙ ap place_before (sym it.behind))

    by_origin : (o : Origin) → v.origin ≡ o → IsBehind (all_valued ds) o n
    by_origin (expression e) is = tt
    by_origin first_item is = tt
    by_origin (item_before p) is = by_before p (before_there (all_valued ds) None (all_chained ds None) n v p at is)

-- ---- names in expressions

in_some : (e : Expr) (value : Option Expr) (u : Used) → value ≡ Some e → Contains (value_paths e) u → Contains (flat_map value_paths (option_to_list value)) u
in_some e None u is in' = let bad : ⊥ = cc in absurd bad
in_some e (Some x) u is in' =
    let same : e ≡ x = sym (same_some x e is) in
    Contains-append_left (value_paths x) [] u (subst (λ y. Contains (value_paths y) u) same in')

-- an origin without a value is no expression
abbrev IsNone : Origin → Type 0
IsNone (expression e) = ⊥
IsNone first_item = Unit
IsNone (item_before p) = Unit

written : (without : Origin) (value : Option Expr) (e : Expr) → IsNone without → item_origin without value ≡ expression e → value ≡ Some e
written without None e none is = absurd (subst IsNone is none)
written without (Some x) e none is = ap Some (same_expression is)
  where
    same_expression : expression x ≡ expression e → x ≡ e
    same_expression here = cc

item_uses : (d : Declared) (without : Origin) (items : List Item) (v : Valued) (e : Expr) (p : Path) → IsNone without → Contains (items_valued d without items) v → v.origin ≡ expression e → Contains (expr_paths e) p
    → Contains (flat_map (λ i. flat_map value_paths (option_to_list i.value)) items) (a_value p)
unfolding items_valued
item_uses d without [] v e p none in' is there = absurd (no_one v in')
item_uses d without (i ∷ is') v e p none (zero, low, here) is there =
    Contains-append_left (flat_map value_paths (option_to_list i.value)) (flat_map (λ (j : Item). flat_map value_paths (option_to_list j.value)) is') (a_value p)
    (in_some e i.value (a_value p) (written without i.value e none (ap (λ (x : Valued). x.origin) here ∙ is)) (map_has a_value (expr_paths e) p there))
item_uses d without (i ∷ is') v e p none (suc k, low, here) is there =
    Contains-append_right (flat_map value_paths (option_to_list i.value)) (flat_map (λ (j : Item). flat_map value_paths (option_to_list j.value)) is') (a_value p)
    (item_uses d (item_before i.name.place) is' v e p tt (k, omega (arith, low), here) is there)

constant_uses : (d : Declared) (cs : List Constant) (v : Valued) (e : Expr) (p : Path) → Contains (map (constant_valued d) cs) v → v.origin ≡ expression e → Contains (expr_paths e) p
    → Contains (flat_map (λ c. entity_paths (type_paths c.type) ++ value_paths c.value) cs) (a_value p)
constant_uses d [] v e p in' is there = absurd (no_one v in')
constant_uses d (c ∷ cs) v e p (zero, low, here) is there =
    Contains-append_left (entity_paths (type_paths c.type) ++ value_paths c.value) (flat_map (λ (k : Constant). entity_paths (type_paths k.type) ++ value_paths k.value) cs) (a_value p)
    (Contains-append_right (entity_paths (type_paths c.type)) (value_paths c.value) (a_value p)
    (subst (λ x. Contains (value_paths x) (a_value p)) (same_expression (sym is ∙ sym (ap (λ (x : Valued). x.origin) here))) (map_has a_value (expr_paths e) p there)))
  where
    same_expression : expression e ≡ expression c.value → e ≡ c.value
    same_expression both = cc
constant_uses d (c ∷ cs) v e p (suc k, low, here) is there =
    Contains-append_right (entity_paths (type_paths c.type) ++ value_paths c.value) (flat_map (λ (j : Constant). entity_paths (type_paths j.type) ++ value_paths j.value) cs) (a_value p)
    (constant_uses d cs v e p (k, omega (arith, low), here) is there)

body_uses : (d : Declared) (body : Declaration) (v : Valued) (e : Expr) (p : Path) → Contains (valued_in d body) v → v.origin ≡ expression e → Contains (expr_paths e) p → Contains (used_in body) (a_value p)
unfolding used_in
body_uses d forward v e p in' is there = absurd (no_one v in')
body_uses d (interface base members) v e p in' is there = absurd (no_one v in')
body_uses d (struct base members) v e p in' is there = absurd (no_one v in')
body_uses d (exception base members) v e p in' is there = absurd (no_one v in')
body_uses d (enum items) v e p in' is there = item_uses d first_item items v e p tt in' is there
body_uses d (constants cs) v e p in' is there = constant_uses d cs v e p in' is there
body_uses d (typedef t) v e p in' is there = absurd (no_one v in')
body_uses d (new_service base constructors) v e p in' is there = absurd (no_one v in')
body_uses d (old_service members) v e p in' is there = absurd (no_one v in')
body_uses d (new_singleton base) v e p in' is there = absurd (no_one v in')
body_uses d (old_singleton service) v e p in' is there = absurd (no_one v in')

-- a constant or item is used in the scope of its declaration
scope_in : (d : Declared) (body : Declaration) (v : Valued) → Contains (valued_in d body) v → scope_of d ≡ v.scope
unfolding items_valued
scope_in d forward v in' = absurd (no_one v in')
scope_in d (interface base members) v in' = absurd (no_one v in')
scope_in d (struct base members) v in' = absurd (no_one v in')
scope_in d (exception base members) v in' = absurd (no_one v in')
scope_in d (enum items) v in' = of_items first_item items in'
  where
    of_items : (without : Origin) (is : List Item) → Contains (items_valued d without is) v → scope_of d ≡ v.scope
    of_items without [] there = absurd (no_one v there)
    of_items without (i ∷ is) (zero, low, here) = ap (λ (x : Valued). x.scope) here
    of_items without (i ∷ is) (suc k, low, here) = of_items (item_before i.name.place) is (k, omega (arith, low), here)
scope_in d (constants cs) v in' = of_constants cs in'
  where
    of_constants : (xs : List Constant) → Contains (map (constant_valued d) xs) v → scope_of d ≡ v.scope
    of_constants [] there = absurd (no_one v there)
    of_constants (x ∷ xs) (zero, low, here) = ap (λ (y : Valued). y.scope) here
    of_constants (x ∷ xs) (suc k, low, here) = of_constants xs (k, omega (arith, low), here)
scope_in d (typedef t) v in' = absurd (no_one v in')
scope_in d (new_service base constructors) v in' = absurd (no_one v in')
scope_in d (old_service members) v in' = absurd (no_one v in')
scope_in d (new_singleton base) v in' = absurd (no_one v in')
scope_in d (old_singleton service) v in' = absurd (no_one v in')

-- each name in an expression is used there
pub used_there : (ds : List Declared) (v : Valued) → Contains (all_valued ds) v → (e : Expr) → v.origin ≡ expression e → (p : Path) → Contains (expr_paths e) p
    → Contains (uses ds) (record { scope = v.scope; used = a_value p })
unfolding all_valued uses uses_of
used_there ds v in' e is p there =
    let found = flat_in (λ (d : Declared). valued_in d d.body) ds v in' in
    let used = body_uses found.0 found.0.body v e p found.2 is there in
    let same = scope_in found.0 found.0.body v found.2 in
    subst (λ (s : Scope). Contains (flat_map uses_of ds) (record { scope = s; used = a_value p })) same
    (in_flat uses_of ds found.0 (record { scope = scope_of found.0; used = a_value p }) found.1 (map_has (λ (u : Used). record { scope = scope_of found.0; used = u }) (used_in found.0.body) (a_value p) used))
