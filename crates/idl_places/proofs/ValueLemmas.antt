-- Names whose value is wrong, one after the other.
use Rattle.std.proofs.Common.{◌≡◌, refl, sym, ap, subst, ◌∙◌, ℕ, zero, suc, ℤ, ◌+◌, ◌<◌, ◌≤◌, Bool, true, false, List, [], ◌∷◌, ◌++◌, map, length, drop, get_or, append_assoc, append-nil, Option, None, arith}
use Rattle.std.proofs.lemmas.List.{drop_all, length-map}
use Rattle.idl_meaning_model.specs.Declarations.{Declared, Origin, Valued, all_valued, full_name, scope_of, first_item, item_before, item_origin, items_valued, constant_valued, valued_in}
use Rattle.idl_model.specs.Places.{Place}
use Rattle.idl_model.specs.Trees as tree
use Rattle.idl_entities.specs.Telling.{Telling, valued_told}
use Rattle.idl_meaning_model.specs.ConstantsMeant.{value_meant}
use Rattle.idl_meaning_model.specs.Meaning.{type_meant}
use Rattle.idl_places.specs.ValuedNames.{Judged, judged_constant, judged_item, wrong_constants_of, wrong_items_of, wrong_values}
use Rattle.idl_rules_model.specs.ItemValues.{passes}
use Rattle.idl_trees.specs.Members.{constant_of, item_of}
use Rattle.idl_trees.specs.declared.member.Constant.{Constant}
use Rattle.idl_trees.specs.declared.member.Item.{Item}
use Rattle.registry_text_model.specs.ConstantValues.{is_in_range}
use Rattle.registry_text_model.specs.EnumValues.{is_long}
use Rattle.idl_rules_model.specs.TypePlaces.{at_unless}
use Rattle.idl_rules_model.specs.WherePaths.{failing}

failing_cons : {X : Type 0} (test : X → Bool) (place : X → Place) (x : X) (xs : List X) (b : Bool) → b ≡ test x
    → failing test place (x ∷ xs) ≡ at_unless (place x) b ++ failing test place xs
failing_cons test place x xs true is = rw (sym is) refl
failing_cons test place x xs false is = rw (sym is) refl

-- ---- as the rules have them

abbrev valued_item : Declared → Origin → tree.Item → Valued
valued_item d without i = record { owner = full_name d; name = i.name; scope = scope_of d; origin = item_origin without i.value }

pub wrong_items_are : (d : Declared) (value : Valued → Option ℤ) (test : Option ℤ → Bool) (without : Origin) (items : List tree.Item)
    → wrong_values (map (λ i. (i.name.place, test)) items) (map value (items_valued d without items)) ≡ failing (λ v. test (value v)) (λ v. v.name.place) (items_valued d without items)
unfolding items_valued wrong_values
wrong_items_are d value test without [] = refl
wrong_items_are d value test without (i ∷ is) =
    ap (λ k. at_unless i.name.place (test (value (valued_item d without i))) ++ k) (wrong_items_are d value test (item_before i.name.place) is)
    ∙ sym (failing_cons (λ v. test (value v)) (λ v. v.name.place) (valued_item d without i) (items_valued d (item_before i.name.place) is) (test (value (valued_item d without i))) refl)

pub wrong_constants_are : (d : Declared) (value : Valued → Option ℤ) (test : tree.Constant → Option ℤ → Bool) (cs : List tree.Constant)
    → wrong_values (map (λ c. (c.name.place, test c)) cs) (map value (map (constant_valued d) cs)) ≡ failing (λ c. test c (value (constant_valued d c))) (λ c. c.name.place) cs
unfolding wrong_values
wrong_constants_are d value test [] = refl
wrong_constants_are d value test (c ∷ cs) =
    ap (λ k. at_unless c.name.place (test c (value (constant_valued d c))) ++ k) (wrong_constants_are d value test cs)
    ∙ sym (failing_cons (λ k. test k (value (constant_valued d k))) (λ k. k.name.place) c cs (test c (value (constant_valued d c))) refl)

-- ---- in a loop

drop_value : {X Y : Type 0} (f : X → Y) (xs : List X) (i : ℕ) (x : X) → i < length xs → x ≡ get_or xs i x → drop i (map f xs) ≡ f x ∷ drop (suc i) (map f xs)
drop_value f [] i x low is = absurd (omega arith)
drop_value f (y ∷ xs) zero x low is = ap (λ k. f k ∷ map f xs) (sym is)
drop_value f (y ∷ xs) (suc i) x low is = drop_value f xs i x (omega arith) is

drop_at : {X : Type 0} (xs : List X) (i : ℕ) (d : X) → i < length xs → drop i xs ≡ get_or xs i d ∷ drop (suc i) xs
drop_at [] i d low = absurd (omega arith)
drop_at (y ∷ xs) zero d low = refl
drop_at (y ∷ xs) (suc i) d low = drop_at xs i d (omega arith)

one_wrong : (p : Judged) (v : Option ℤ) (ps : List Judged) (vs : List (Option ℤ)) (judged : List Judged) (values : List (Option ℤ)) → judged ≡ p ∷ ps → values ≡ v ∷ vs
    → wrong_values judged values ≡ at_unless p.0 (p.1 v) ++ wrong_values ps vs
unfolding wrong_values
one_wrong p v ps vs judged values first second = rw (first, second) refl

-- what was added so far with what is left is what there is
pub value_on : {X : Type 0} (judge : X → Judged) (xs : List X) (vs : List (Option ℤ)) (i : ℕ) (x : X) (old now new : List Place) → i < length xs → length xs ≡ length vs
    → x ≡ get_or xs i x → now ++ wrong_values (drop i (map judge xs)) (drop i vs) ≡ old ++ wrong_values (map judge xs) vs
    → new ≡ now ++ at_unless (judge x).0 ((judge x).1 (get_or vs i None)) → new ++ wrong_values (drop (i + 1) (map judge xs)) (drop (i + 1) vs) ≡ old ++ wrong_values (map judge xs) vs
value_on judge xs vs i x old now new low long is so_far more =
    let next : suc i ≡ i + 1 = omega arith in
    let v = get_or vs i None in
    let front = one_wrong (judge x) v (drop (suc i) (map judge xs)) (drop (suc i) vs) (drop i (map judge xs)) (drop i vs) (drop_value judge xs i x low is) (drop_at vs i None (omega (arith, low, long))) in
    subst (λ n. new ++ wrong_values (drop n (map judge xs)) (drop n vs) ≡ old ++ wrong_values (map judge xs) vs) next
    (ap (λ k. k ++ wrong_values (drop (suc i) (map judge xs)) (drop (suc i) vs)) more
    ∙ append_assoc now (at_unless (judge x).0 ((judge x).1 v)) (wrong_values (drop (suc i) (map judge xs)) (drop (suc i) vs))
    ∙ ap (λ k. now ++ k) (sym front) ∙ so_far)

nothing_left : (judged : List Judged) (values : List (Option ℤ)) → judged ≡ [] → wrong_values judged values ≡ []
unfolding wrong_values
nothing_left judged values none = rw none refl

pub values_end : {X : Type 0} (judge : X → Judged) (xs : List X) (vs : List (Option ℤ)) (i : ℕ) (old now : List Place) → length xs ≤ i
    → now ++ wrong_values (drop i (map judge xs)) (drop i vs) ≡ old ++ wrong_values (map judge xs) vs → now ≡ old ++ wrong_values (map judge xs) vs
values_end judge xs vs i old now past so_far =
    let long = length-map xs judge in
    sym (append-nil now) ∙ sym (ap (λ k. now ++ k) (nothing_left (drop i (map judge xs)) (drop i vs) (drop_all i (map judge xs) (omega (arith, past, long))))) ∙ so_far

-- ---- of a declaration

as_many_items : (d : Declared) (without : Origin) (items : List tree.Item) → length (items_valued d without items) ≡ length items
unfolding items_valued
as_many_items d without [] = refl
as_many_items d without (i ∷ is) = ap suc (as_many_items d (item_before i.name.place) is)

there : (t : Telling) (plain body : tree.Declaration) → body ≡ plain → plain ≡ t.declared.body → valued_told t ≡ valued_in t.declared body
there t plain body is same = ap (valued_in t.declared) (sym same ∙ sym is)

pub items_long : (t : Telling) (plain : tree.Declaration) (items slice : List Item) (values : List (Option ℤ)) → slice ≡ items → tree.enum (map item_of items) ≡ plain → plain ≡ t.declared.body
    → values ≡ map (value_meant (all_valued t.all)) (valued_told t) → length slice ≡ length values
items_long t plain items slice values same is body worth =
    let plains = map item_of items in
    ap length same ∙ sym (length-map items item_of) ∙ sym (as_many_items t.declared first_item plains)
    ∙ sym (ap length (there t plain (tree.enum plains) is body)) ∙ sym (length-map (valued_told t) (value_meant (all_valued t.all))) ∙ sym (ap length worth)

items_again : (items : List Item) → map judged_item items ≡ map (λ (i : tree.Item). (i.name.place, passes is_long)) (map item_of items)
items_again [] = refl
items_again (i ∷ is) = ap (λ k. judged_item i ∷ k) (items_again is)

pub items_wrong : (t : Telling) (plain : tree.Declaration) (items slice : List Item) (values : List (Option ℤ)) → slice ≡ items → tree.enum (map item_of items) ≡ plain → plain ≡ t.declared.body
    → values ≡ map (value_meant (all_valued t.all)) (valued_told t) → wrong_values (map judged_item slice) values ≡ wrong_items_of t plain
items_wrong t plain items slice values same is body worth =
    let plains = map item_of items in
    ap (λ k. wrong_values (map judged_item k) values) same ∙ ap (λ k. wrong_values k values) (items_again items)
    ∙ ap (wrong_values (map (λ (i : tree.Item). (i.name.place, passes is_long)) plains)) (worth ∙ ap (map (value_meant (all_valued t.all))) (there t plain (tree.enum plains) is body))
    ∙ wrong_items_are t.declared (value_meant (all_valued t.all)) (passes is_long) first_item plains ∙ ap (wrong_items_of t) is

constants_again : (t : Telling) (cs : List Constant)
    → map (judged_constant t) cs ≡ map (λ (c : tree.Constant). (c.name.place, passes (is_in_range (type_meant t.all t.declared.modules c.type)))) (map constant_of cs)
constants_again t [] = refl
constants_again t (c ∷ cs) = ap (λ k. judged_constant t c ∷ k) (constants_again t cs)

pub constants_wrong : (t : Telling) (plain : tree.Declaration) (cs slice : List Constant) (values : List (Option ℤ)) → slice ≡ cs → tree.constants (map constant_of cs) ≡ plain
    → plain ≡ t.declared.body → values ≡ map (value_meant (all_valued t.all)) (valued_told t) → wrong_values (map (judged_constant t) slice) values ≡ wrong_constants_of t plain
constants_wrong t plain cs slice values same is body worth =
    let plains = map constant_of cs in
    ap (λ k. wrong_values (map (judged_constant t) k) values) same ∙ ap (λ k. wrong_values k values) (constants_again t cs)
    ∙ ap (wrong_values (map (λ (c : tree.Constant). (c.name.place, passes (is_in_range (type_meant t.all t.declared.modules c.type)))) plains))
    (worth ∙ ap (map (value_meant (all_valued t.all))) (there t plain (tree.constants plains) is body))
    ∙ wrong_constants_are t.declared (value_meant (all_valued t.all)) (λ (c : tree.Constant). passes (is_in_range (type_meant t.all t.declared.modules c.type))) plains
    ∙ ap (wrong_constants_of t) is
