-- Values hang on the values of what is led to alone: where those are known, they are what the definition says.
use Rattle.std.proofs.Common.{◌≡◌, refl, sym, ap, subst, ◌∙◌, ℕ, zero, suc, ℤ, Bool, true, false, List, [], ◌∷◌, ◌++◌, length, Option, None, Some, Result, Ok, Err, Contains, ◌⊎◌, inl, inr, if◌then◌else◌, arith}
use Rattle.std.proofs.lemmas.List.Elements.{Contains-append_left, Contains-append_right}
use Rattle.std.specs.List.{cons_option, filter_map, find, flat_map}
use Rattle.std.specs.Option.{option_and_then, option_to_list}
use Rattle.std.specs.Result.{result_ok}
use Rattle.std.specs.Str.{bytes_eq}
use Rattle.uno_model.specs.Circles.{HasAll, Leads, step, on, ends_within}
use Rattle.uno_model.proofs.CircleLaws.{ends_from, ends_no_circle, next_ends, none_ends_at_once}
use Rattle.idl_meaning_model.specs.ConstantsMeant.{one_more, origin_leads_to, origin_value, leads_to_valued, value_meant, value_within, valued_at}
use Rattle.idl_meaning_model.specs.Declarations.{Scope, Origin, expression, first_item, item_before, Valued, value_name}
use Rattle.idl_meaning_model.specs.Scopes.{constant_named, first_of, valued_as, value_names}
use Rattle.idl_meaning_model.specs.Uses.{expr_paths, operand_paths}
use Rattle.idl_model.specs.Places.{Place, is_at}
use Rattle.idl_model.specs.Trees.{Path, Expr, number, truth, constant, parentheses, signed, chain, Operands, no_operands, operand}
use Rattle.idl_model.specs.Values.{ConstFault, and_then, apply, known, signs_applied, value, values}
use Rattle.graph_order.proofs.EndLaws.{ends_soon}

-- ---- expressions

mutual
  unfolding value expr_paths

  -- two functions that agree on the names of an expression give it one value
  pub value_same : (f g : Path → Option ℤ) (e : Expr) → ((p : Path) → Contains (expr_paths e) p → f p ≡ g p) → value f e ≡ value g e
  value_same f g (number n) each = refl
  value_same f g (truth b) each = refl
  value_same f g (constant path) each = ap known (each path (0, omega arith, refl))
  value_same f g (parentheses e) each = value_same f g e each
  value_same f g (signed signs e) each = ap (λ r. and_then r (signs_applied signs)) (value_same f g e each)
  value_same f g (chain e es) each =
      ap (λ r. and_then r (λ z. values f z es)) (value_same f g e (λ p in'. each p (Contains-append_left (expr_paths e) (operand_paths es) p in')))
      ∙ by_first (value g e) (λ z. values_same f g z es (λ p in'. each p (Contains-append_right (expr_paths e) (operand_paths es) p in')))
    where
      by_first : (r : Result ℤ ConstFault) → ((z : ℤ) → values f z es ≡ values g z es) → and_then r (λ z. values f z es) ≡ and_then r (λ z. values g z es)
      by_first (Ok z) rest = rest z
      by_first (Err fault) rest = refl

  pub values_same : (f g : Path → Option ℤ) (so_far : ℤ) (es : Operands) → ((p : Path) → Contains (operand_paths es) p → f p ≡ g p) → values f so_far es ≡ values g so_far es
  values_same f g so_far no_operands each = refl
  values_same f g so_far (operand op e es) each =
      ap (λ r. and_then (and_then r (apply op so_far)) (λ z. values f z es)) (value_same f g e (λ p in'. each p (Contains-append_left (expr_paths e) (operand_paths es) p in')))
      ∙ by_first (and_then (value g e) (apply op so_far)) (λ z. values_same f g z es (λ p in'. each p (Contains-append_right (expr_paths e) (operand_paths es) p in')))
    where
      by_first : (r : Result ℤ ConstFault) → ((z : ℤ) → values f z es ≡ values g z es) → and_then r (λ z. values f z es) ≡ and_then r (λ z. values g z es)
      by_first (Ok z) rest = rest z
      by_first (Err fault) rest = refl

-- what goes on has something to go on from
between : (r : Result ℤ ConstFault) (go : ℤ → Result ℤ ConstFault) (z : ℤ) → and_then r go ≡ Ok z → (y : ℤ) × (r ≡ Ok y) × (go y ≡ Ok z)
between (Ok y) go z is = (y, refl, is)
between (Err fault) go z is = let bad : ⊥ = cc in absurd bad

known_some : (o : Option ℤ) (z : ℤ) → known o ≡ Ok z → (y : ℤ) × (o ≡ Some y)
known_some None z is = let bad : ⊥ = cc in absurd bad
known_some (Some y) z is = (y, refl)

-- a name of one that has a value
one_of : (path p : Path) → Contains (path ∷ []) p → path ≡ p
one_of path p (zero, low, is) = is
one_of path p (suc k, low, is) = let bad : ⊥ = omega (arith, low) in absurd bad

pub no_one : {X : Type 0} (x : X) → Contains [] x → ⊥
no_one x (k, low, is) = omega (arith, low)

-- where something is in two lists one behind the other
in_both : {X : Type 0} (xs ys : List X) (x : X) → Contains (xs ++ ys) x → Contains xs x ⊎ Contains ys x
in_both [] ys x in' = inr in'
in_both (y ∷ xs) ys x (zero, low, is) = inl (0, omega arith, is)
in_both (y ∷ xs) ys x (suc k, low, is) = behind (in_both xs ys x (k, omega (arith, low), is))
  where
    behind : Contains xs x ⊎ Contains ys x → Contains (y ∷ xs) x ⊎ Contains ys x
    behind (inl (j, j_low, at)) = inl (suc j, omega (arith, j_low), at)
    behind (inr there) = inr there

mutual
  unfolding value expr_paths

  -- an expression that has a value has one for each of its names
  pub value_needs : (f : Path → Option ℤ) (e : Expr) (z : ℤ) → value f e ≡ Ok z → (p : Path) → Contains (expr_paths e) p → (y : ℤ) × (f p ≡ Some y)
  value_needs f (number n) z is p in' = absurd (no_one p in')
  value_needs f (truth b) z is p in' = absurd (no_one p in')
  value_needs f (constant path) z is p in' = subst (λ q. (y : ℤ) × (f q ≡ Some y)) (one_of path p in') (known_some (f path) z is)
  value_needs f (parentheses e) z is p in' = value_needs f e z is p in'
  value_needs f (signed signs e) z is p in' =
      let inner = between (value f e) (signs_applied signs) z is in
      value_needs f e inner.0 inner.1 p in'
  value_needs f (chain e es) z is p in' =
      let inner = between (value f e) (λ y. values f y es) z is in
      by_part (in_both (expr_paths e) (operand_paths es) p in') (value_needs f e inner.0 inner.1 p) (values_need f inner.0 es z inner.2 p)
    where
      by_part : Contains (expr_paths e) p ⊎ Contains (operand_paths es) p → (Contains (expr_paths e) p → (y : ℤ) × (f p ≡ Some y)) → (Contains (operand_paths es) p → (y : ℤ) × (f p ≡ Some y))
          → (y : ℤ) × (f p ≡ Some y)
      by_part (inl there) first rest = first there
      by_part (inr there) first rest = rest there

  pub values_need : (f : Path → Option ℤ) (so_far : ℤ) (es : Operands) (z : ℤ) → values f so_far es ≡ Ok z → (p : Path) → Contains (operand_paths es) p → (y : ℤ) × (f p ≡ Some y)
  values_need f so_far no_operands z is p in' = absurd (no_one p in')
  values_need f so_far (operand op e es) z is p in' =
      let outer = between (and_then (value f e) (apply op so_far)) (λ y. values f y es) z is in
      let inner = between (value f e) (apply op so_far) outer.0 outer.1 in
      by_part (in_both (expr_paths e) (operand_paths es) p in') (value_needs f e inner.0 inner.1 p) (values_need f outer.0 es z outer.2 p)
    where
      by_part : Contains (expr_paths e) p ⊎ Contains (operand_paths es) p → (Contains (expr_paths e) p → (y : ℤ) × (f p ≡ Some y)) → (Contains (operand_paths es) p → (y : ℤ) × (f p ≡ Some y))
          → (y : ℤ) × (f p ≡ Some y)
      by_part (inl there) first rest = first there
      by_part (inr there) first rest = rest there

-- ---- what is led to

pub in_option : {X : Type 0} (o : Option X) (x : X) → o ≡ Some x → Contains (option_to_list o) x
in_option None x is = let bad : ⊥ = cc in absurd bad
in_option (Some y) x is = (0, omega arith, let same : y ≡ x = cc in same)

pub of_option : {X : Type 0} (o : Option X) (x : X) → Contains (option_to_list o) x → o ≡ Some x
of_option None x in' = absurd (no_one x in')
of_option (Some y) x (zero, low, is) = ap Some is
of_option (Some y) x (suc k, low, is) = let bad : ⊥ = omega (arith, low) in absurd bad

pub in_flat : {X Y : Type 0} (f : X → List Y) (xs : List X) (x : X) (y : Y) → Contains xs x → Contains (f x) y → Contains (flat_map f xs) y
in_flat f [] x y in' there = absurd (no_one x in')
in_flat f (z ∷ xs) x y (zero, low, is) there = Contains-append_left (f z) (flat_map f xs) y (subst (λ w. Contains (f w) y) (sym is) there)
in_flat f (z ∷ xs) x y (suc k, low, is) there = Contains-append_right (f z) (flat_map f xs) y (in_flat f xs x y (k, omega (arith, low), is) there)

pub flat_in : {X Y : Type 0} (f : X → List Y) (xs : List X) (y : Y) → Contains (flat_map f xs) y → (x : X) × Contains xs x × Contains (f x) y
flat_in f [] y in' = absurd (no_one y in')
flat_in {X = X} {Y = Y} f (x ∷ xs) y in' = by_part (in_both (f x) (flat_map f xs) y in') (flat_in f xs y)
  where
    by_part : Contains (f x) y ⊎ Contains (flat_map f xs) y → (Contains (flat_map f xs) y → (z : X) × Contains xs z × Contains (f z) y) → (z : X) × Contains (x ∷ xs) z × Contains (f z) y
    by_part (inl there) rest = (x, (0, omega arith, refl), there)
    by_part (inr there) rest = let it = rest there in (it.0, (suc it.1.0, (let low = it.1.1 in omega (arith, low)), it.1.2), it.2)

module _ (vs : List Valued) where
  -- two functions that agree on what is led to give one value
  pub origin_same : (f g : Valued → Option ℤ) (scope : Scope) (o : Origin) → ((w : Valued) → Contains (origin_leads_to vs scope o) w → f w ≡ g w) → origin_value f vs scope o ≡ origin_value g vs scope o
  origin_same f g scope (expression e) each =
      ap result_ok (value_same (λ path. option_and_then f (constant_named vs scope path)) (λ path. option_and_then g (constant_named vs scope path)) e
      (λ p in'. by_name p in' (constant_named vs scope p) refl))
    where
      by_name : (p : Path) → Contains (expr_paths e) p → (w : Option Valued) → constant_named vs scope p ≡ w → option_and_then f w ≡ option_and_then g w
      by_name p in' None is = refl
      by_name p in' (Some w) is = each w (in_flat (λ path. option_to_list (constant_named vs scope path)) (expr_paths e) p w in' (in_option (constant_named vs scope p) w is))
  origin_same f g scope first_item each = refl
  origin_same f g scope (item_before place) each = ap (option_and_then one_more) (by_place (valued_at vs place) refl)
    where
      by_place : (w : Option Valued) → valued_at vs place ≡ w → option_and_then f w ≡ option_and_then g w
      by_place None is = refl
      by_place (Some w) is = each w (in_option (valued_at vs place) w is)

  some_within : (f : Valued → Option ℤ) (o : Option Valued) (w : Valued) (y : ℤ) → o ≡ Some w → option_and_then f o ≡ Some y → f w ≡ Some y
  some_within f None w y is has = let bad : ⊥ = cc in absurd bad
  some_within f (Some v) w y is has = let same : v ≡ w = cc in ap f (sym same) ∙ has

  ok_of : (r : Result ℤ ConstFault) (z : ℤ) → result_ok r ≡ Some z → r ≡ Ok z
  ok_of (Ok y) z is = let same : y ≡ z = cc in ap Ok same
  ok_of (Err fault) z is = let bad : ⊥ = cc in absurd bad

  more_of : (o : Option ℤ) (z : ℤ) → option_and_then one_more o ≡ Some z → (y : ℤ) × (o ≡ Some y)
  more_of None z is = let bad : ⊥ = cc in absurd bad
  more_of (Some y) z is = (y, refl)

  -- what has a value has one for each to which it leads
  origin_needs : (f : Valued → Option ℤ) (scope : Scope) (o : Origin) (z : ℤ) → origin_value f vs scope o ≡ Some z → (w : Valued) → Contains (origin_leads_to vs scope o) w → (y : ℤ) × (f w ≡ Some y)
  origin_needs f scope (expression e) z is w in' =
      let found = flat_in (λ path. option_to_list (constant_named vs scope path)) (expr_paths e) w in' in
      let named = of_option (constant_named vs scope found.0) w found.2 in
      let has = value_needs (λ path. option_and_then f (constant_named vs scope path)) e z (ok_of _ z is) found.0 found.1 in
      (has.0, some_within f (constant_named vs scope found.0) w has.0 named has.1)
  origin_needs f scope first_item z is w in' = absurd (no_one w in')
  origin_needs f scope (item_before place) z is w in' =
      let named = of_option (valued_at vs place) w in' in
      let has = more_of (option_and_then f (valued_at vs place)) z is in
      (has.0, some_within f (valued_at vs place) w has.0 named has.1)

  -- ---- over so many steps

  -- what has a value over so many steps has no longer way
  pub valued_ends : (n : ℕ) (v : Valued) (z : ℤ) → value_within n vs v ≡ Some z → ends_within (leads_to_valued vs) n v ≡ true
  unfolding value_within leads_to_valued
  valued_ends zero v z is = let bad : ⊥ = cc in absurd bad
  valued_ends (suc n) v z is =
      ends_from (leads_to_valued vs) n v (λ w in'.
      let has = origin_needs (value_within n vs) v.scope v.origin z is w in' in
      valued_ends n w has.0 has.1)

  -- where no way is longer, one step more gives the same
  ending_kept : (n : ℕ) (v : Valued) → ends_within (leads_to_valued vs) n v ≡ true → value_within n vs v ≡ value_within (suc n) vs v
  unfolding value_within leads_to_valued
  ending_kept zero v ends = absurd (none_ends_at_once (leads_to_valued vs) v ends)
  ending_kept (suc n) v ends =
      origin_same (value_within n vs) (value_within (suc n) vs) v.scope v.origin (λ w in'. ending_kept n w (next_ends (leads_to_valued vs) n v w ends in'))

  -- ---- what is led to is there

  found_in : (test : Valued → Bool) (xs : List Valued) (w : Valued) → find test xs ≡ Some w → Contains xs w
  found_in test [] w is = let bad : ⊥ = cc in absurd bad
  found_in test (x ∷ xs) w is = by_test (test x) is (found_in test xs w)
    where
      by_test : (b : Bool) → (if b then Some x else find test xs) ≡ Some w → (find test xs ≡ Some w → Contains xs w) → Contains (x ∷ xs) w
      by_test true is' rest = (0, omega arith, let same : x ≡ w = cc in same)
      by_test false is' rest = let in' = rest is' in (suc in'.0, (let low = in'.1 in omega (arith, low)), in'.2)

  first_in : (names : List (List ℕ)) (w : Valued) → first_of (filter_map (valued_as vs) names) ≡ Some w → Contains vs w
  unfolding valued_as
  first_in [] w is = let bad : ⊥ = cc in absurd bad
  first_in (n ∷ ns) w is = by_name (valued_as vs n) refl is (first_in ns w)
    where
      by_name : (o : Option Valued) → valued_as vs n ≡ o → first_of (cons_option o (filter_map (valued_as vs) ns)) ≡ Some w → (first_of (filter_map (valued_as vs) ns) ≡ Some w → Contains vs w) → Contains vs w
      by_name None here is' rest = rest is'
      by_name (Some x) here is' rest = let same : x ≡ w = cc in found_in (λ v. bytes_eq n (value_name v)) vs w (here ∙ ap Some same)

  constant_in : (scope : Scope) (path : Path) (w : Valued) → constant_named vs scope path ≡ Some w → Contains vs w
  unfolding constant_named
  constant_in scope path w is = first_in (value_names scope path) w is

  placed_in : (place : Place) (w : Valued) → valued_at vs place ≡ Some w → Contains vs w
  unfolding valued_at
  placed_in place w is = found_in (λ v. is_at place v.name.place) vs w is

  pub led_there : (v w : Valued) → Contains (leads_to_valued vs v) w → Contains vs w
  unfolding leads_to_valued
  led_there v w in' = by_origin v.origin in'
    where
      by_origin : (o : Origin) → Contains (origin_leads_to vs v.scope o) w → Contains vs w
      by_origin (expression e) there =
          let found = flat_in (λ path. option_to_list (constant_named vs v.scope path)) (expr_paths e) w there in
          constant_in v.scope found.0 w (of_option (constant_named vs v.scope found.0) w found.2)
      by_origin first_item there = absurd (no_one w there)
      by_origin (item_before place) there = placed_in place w (of_option (valued_at vs place) w there)

  all_there : (v : Valued) → Contains vs v → HasAll (leads_to_valued vs) vs v
  all_there v in' b (inl same) c on_to = subst (Contains vs) same in'
  all_there v in' b (inr way) c on_to = way_there v b way
    where
      way_there : (x y : Valued) → Leads (leads_to_valued vs) x y → Contains vs y
      way_there x y (step x' y' to) = led_there x y to
      way_there x y (on x' u y' to rest) = way_there u y rest

  module _ (v : Valued) (in' : Contains vs v) where
    -- so the value is what comes of the values of what is led to
    pub meant_by_others : value_meant vs v ≡ origin_value (value_meant vs) vs v.scope v.origin
    unfolding value_meant value_within
    meant_by_others = by_end (ends_within (leads_to_valued vs) (suc (length vs)) v) refl
      where
        soon : (n : ℕ) → (o : Option ℤ) → value_within n vs v ≡ o → ends_within (leads_to_valued vs) (suc (length vs)) v ≡ false → o ≡ None
        soon n None is not-ends = refl
        soon n (Some z) is not-ends =
            let ends = ends_soon (leads_to_valued vs) n vs v (all_there v in') (valued_ends n v z is) in
            let bad : ⊥ = cc in absurd bad

        by_end : (b : Bool) → ends_within (leads_to_valued vs) (suc (length vs)) v ≡ b → value_within (suc (length vs)) vs v ≡ value_within (suc (suc (length vs))) vs v
        by_end true ends = ending_kept (suc (length vs)) v ends
        by_end false not-ends =
            soon (suc (length vs)) (value_within (suc (length vs)) vs v) refl not-ends ∙ sym (soon (suc (suc (length vs))) (value_within (suc (suc (length vs))) vs v) refl not-ends)

  -- what leads back to itself has no value
  pub circle_has_none : (v : Valued) → Leads (leads_to_valued vs) v v → value_meant vs v ≡ None
  unfolding value_meant
  circle_has_none v way = by_value (value_within (suc (length vs)) vs v) refl
    where
      by_value : (o : Option ℤ) → value_within (suc (length vs)) vs v ≡ o → o ≡ None
      by_value None is = refl
      by_value (Some z) is = absurd (ends_no_circle (leads_to_valued vs) (suc (length vs)) v (valued_ends (suc (length vs)) v z is) way)
