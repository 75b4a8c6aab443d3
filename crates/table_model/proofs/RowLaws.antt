-- Rows in rising order are told by what is found in them.
use Rattle.std.proofs.Common.{◌≡◌, Bool, true, false, cond, not, ◌&&◌, ◌||◌, List, [], ◌∷◌, Option, None, Some, IfSome, refl, sym, ap, ◌∙◌, subst}
use Rattle.std.specs.Prelude.{T}
use Rattle.std.specs.declared.cmp.Ordering.{Ordering}
use Rattle.std.specs.declared.cmp.Ordering.TheVariants.{Less, Equal, Greater}
use Rattle.std.specs.Ordering.{eq_by_cmp, is_eq, is_lt}
use Rattle.std.specs.List.{list_any}
use Rattle.std.specs.Cmp.{IsTotalOrder, Equal-is, eq_by_cmp_equiv, alike_right, tied_itself}
use Rattle.std.specs.FinMap.{find, put, is_sorted, IsAntisymmetric}
use Rattle.std.specs.FinMap.Entries.{by_order, below_all, is_sorted-put, is_sorted-where_key, find-put, find-where_key, same_entries, where_key}
use Rattle.table_model.specs.Rows.{without, in_order}

module _ {K X : Type 0} {cmp : K → K → Ordering} (order : IsTotalOrder cmp) where
  -- rows put in order rise
  pub in_order_rises : (rows : List (K × X)) → T (is_sorted cmp (in_order cmp rows))
  in_order_rises [] = tt
  in_order_rises (row ∷ rows) = is_sorted-put cmp order row.0 row.1 (in_order cmp rows) (in_order_rises rows)

  -- putting rows in order keeps what is found
  pub found_in_order : (q : K) (rows : List (K × X)) → find cmp q (in_order cmp rows) ≡ find cmp q rows
  found_in_order q [] = refl
  found_in_order q (row ∷ rows) = find-put cmp order q row.0 row.1 (in_order cmp rows) ∙ ap (cond (eq_by_cmp cmp q row.0) (Some row.1)) (found_in_order q rows)

  turned : (b : Bool) (x y : Option X) → cond (not b) x y ≡ cond b y x
  turned b x y = elim b as (λ b. cond (not b) x y ≡ cond b y x) [ true ↦ refl | false ↦ refl ]

  -- nothing is found at a key whose row is gone, and all else stays
  pub found_without : (q k : K) (rows : List (K × X)) → find cmp q (without cmp k rows) ≡ cond (eq_by_cmp cmp q k) None (find cmp q rows)
  found_without q k rows =
      find-where_key cmp (λ x. not (eq_by_cmp cmp k x)) q (λ x tied. ap (λ r. not (is_eq r)) (sym (alike_right order q x k tied))) rows
      ∙ turned (eq_by_cmp cmp k q) _ _ ∙ ap (λ b. cond b None (find cmp q rows)) ((eq_by_cmp_equiv order).symm k q)

  module _ (same : IsAntisymmetric cmp) (old new : List (K × X)) (k : K) where
    -- rows in which one key has another value are those with the value put at the key
    pub in_order_put : (v : X) → ((q : K) → find cmp q new ≡ cond (eq_by_cmp cmp q k) (Some v) (find cmp q old)) → in_order cmp new ≡ put cmp k v (in_order cmp old)
    in_order_put v found =
        same_entries cmp order same _ _ (in_order_rises new) (is_sorted-put cmp order k v _ (in_order_rises old))
        (λ q. found_in_order q new ∙ found q ∙ ap (cond (eq_by_cmp cmp q k) (Some v)) (sym (found_in_order q old)) ∙ sym (find-put cmp order q k v (in_order cmp old)))

    -- rows in which one key has no value are those without its row
    pub in_order_without : ((q : K) → find cmp q new ≡ cond (eq_by_cmp cmp q k) None (find cmp q old)) → in_order cmp new ≡ without cmp k (in_order cmp old)
    in_order_without found =
        same_entries cmp order same _ _ (in_order_rises new) (is_sorted-where_key cmp _ _ (in_order_rises old))
        (λ q. found_in_order q new ∙ found q ∙ ap (cond (eq_by_cmp cmp q k) None) (sym (found_in_order q old)) ∙ sym (found_without q k (in_order cmp old)))

  -- rows in which the same is found are the same in order
  pub in_order_same : IsAntisymmetric cmp → (old new : List (K × X)) → ((q : K) → find cmp q new ≡ find cmp q old) → in_order cmp new ≡ in_order cmp old
  in_order_same same old new found = same_entries cmp order same _ _ (in_order_rises new) (in_order_rises old) (λ q. found_in_order q new ∙ found q ∙ sym (found_in_order q old))

passed_by : (a b c : Bool) → (a || (b || c)) ≡ (b || (a || c))
passed_by true true c = refl
passed_by true false c = refl
passed_by false b c = refl

told_twice : (a b c : Bool) → a ≡ b → (b || c) ≡ (a || (b || c))
told_twice a true c is = ap (λ a. a || true) (sym is)
told_twice a false c is = ap (λ a. a || c) (sym is)

module _ {K X : Type 0} {cmp : K → K → Ordering} (same : IsAntisymmetric cmp) (test : K → Bool) where
  -- whether a key passes a test, after a value is put
  pub any_put : (k : K) (v : X) (rows : List (K × X)) → list_any (λ row. test row.0) (put cmp k v rows) ≡ (test k || list_any (λ row. test row.0) rows)
  any_put k v [] = refl
  any_put k v (row ∷ rows) =
      elim (cmp k row.0) as (λ o. cmp k row.0 ≡ o → list_any (λ row. test row.0) (by_order o ((k, v) ∷ row ∷ rows) ((row.0, v) ∷ rows) (row ∷ put cmp k v rows)) ≡ (test k || (test row.0 || list_any (λ row. test row.0) rows))) [
        | Less ↦ λ _. refl
        | Equal ↦ λ tied. told_twice (test k) (test row.0) _ (ap test (same k row.0 tied))
        | Greater ↦ λ _. ap (λ b. test row.0 || b) (any_put k v rows) ∙ passed_by (test row.0) (test k) _
      ] refl

  -- putting rows in order keeps whether a key passes a test
  pub any_in_order : (rows : List (K × X)) → list_any (λ row. test row.0) rows ≡ list_any (λ row. test row.0) (in_order cmp rows)
  any_in_order [] = refl
  any_in_order (row ∷ rows) = ap (λ b. test row.0 || b) (any_in_order rows) ∙ sym (any_put row.0 row.1 (in_order cmp rows))

-- what holds of both choices holds of the one that is taken
either_way : {X : Type 0} (P : X → Type 0) (b : Bool) (x y : X) → P x → P y → P (cond b x y)
either_way P true x y p q = p
either_way P false x y p q = q

module _ {K X : Type 0} {cmp : K → K → Ordering} (order : IsTotalOrder cmp) (P : X → Type 0) (k : K) (rows : List (K × X)) (all : (q : K) → IfSome (find cmp q rows) P) where
  -- what holds of each value holds of each after one that it holds of is put
  pub all_put : (v : X) → P v → (q : K) → IfSome (find cmp q (put cmp k v rows)) P
  all_put v p q = subst (λ found. IfSome found P) (sym (find-put cmp order q k v rows)) (either_way (λ found. IfSome found P) (eq_by_cmp cmp q k) (Some v) (find cmp q rows) p (all q))

  -- and after those of some keys are gone
  pub all_where : (test : K → Bool) → ((q x : K) → cmp q x ≡ Equal → test x ≡ test q) → (q : K) → IfSome (find cmp q (where_key cmp test rows)) P
  all_where test alike q =
      subst (λ found. IfSome found P) (sym (find-where_key cmp test q (alike q) rows))
      (either_way (λ found. IfSome found P) (test q) (find cmp q rows) None (all q) tt)

  -- and after a row is gone
  pub all_without : (q : K) → IfSome (find cmp q (without cmp k rows)) P
  all_without q = subst (λ found. IfSome found P) (sym (found_without order q k rows)) (either_way (λ found. IfSome found P) (eq_by_cmp cmp q k) None (find cmp q rows) tt (all q))

module _ {K X : Type 0} {cmp : K → K → Ordering} (order : IsTotalOrder cmp) (k : K) where
  -- the last value that is put stays
  pub put_twice : (v w : X) (rows : List (K × X)) → put cmp k w (put cmp k v rows) ≡ put cmp k w rows
  put_twice v w [] = ap (λ o. by_order o ((k, w) ∷ (k, v) ∷ []) ((k, w) ∷ []) ((k, v) ∷ (k, w) ∷ [])) (tied_itself order k)
  put_twice v w (row ∷ rows) =
      elim (cmp k row.0) as (λ o. cmp k row.0 ≡ o → put cmp k w (by_order o ((k, v) ∷ row ∷ rows) ((row.0, v) ∷ rows) (row ∷ put cmp k v rows)) ≡ by_order o ((k, w) ∷ row ∷ rows) ((row.0, w) ∷ rows) (row ∷ put cmp k w rows)) [
        | Less ↦ λ _. ap (λ o. by_order o ((k, w) ∷ (k, v) ∷ row ∷ rows) ((k, w) ∷ row ∷ rows) ((k, v) ∷ put cmp k w (row ∷ rows))) (tied_itself order k)
        | Equal ↦ λ is. ap (λ o. by_order o ((k, w) ∷ (row.0, v) ∷ rows) ((row.0, w) ∷ rows) ((row.0, v) ∷ put cmp k w rows)) is
        | Greater ↦ λ is. ap (λ o. by_order o ((k, w) ∷ row ∷ put cmp k v rows) ((row.0, w) ∷ put cmp k v rows) (row ∷ put cmp k w (put cmp k v rows))) is ∙ ap (λ rest. row ∷ rest) (put_twice v w rows)
      ] refl

  -- a row that was put and is gone leaves the others
  pub without_put : (v : X) (rows : List (K × X)) → without cmp k (put cmp k v rows) ≡ without cmp k rows
  without_put v [] = ap (λ o. cond (not (is_eq o)) ((k, v) ∷ []) []) (tied_itself order k)
  without_put v (row ∷ rows) =
      elim (cmp k row.0) as (λ o. cmp k row.0 ≡ o → without cmp k (by_order o ((k, v) ∷ row ∷ rows) ((row.0, v) ∷ rows) (row ∷ put cmp k v rows)) ≡ without cmp k (row ∷ rows)) [
        | Less ↦ λ _. ap (λ o. cond (not (is_eq o)) ((k, v) ∷ without cmp k (row ∷ rows)) (without cmp k (row ∷ rows))) (tied_itself order k)
        | Equal ↦ λ is. ap (λ o. cond (not (is_eq o)) ((row.0, v) ∷ without cmp k rows) (without cmp k rows)) is ∙ sym (ap (λ o. cond (not (is_eq o)) (row ∷ without cmp k rows) (without cmp k rows)) is)
        | Greater ↦ λ _. ap (λ rest. cond (not (eq_by_cmp cmp k row.0)) (row ∷ rest) rest) (without_put v rows)
      ] refl

  -- the value that is there, put again, changes nothing
  pub put_same : IsAntisymmetric cmp → (v : X) (rows : List (K × X)) → T (is_sorted cmp rows) → find cmp k rows ≡ Some v → put cmp k v rows ≡ rows
  put_same same v rows rises is =
      same_entries cmp order same _ _ (is_sorted-put cmp order k v rows rises) rises
      (λ q. find-put cmp order q k v rows
      ∙ elim (eq_by_cmp cmp q k) as (λ b. eq_by_cmp cmp q k ≡ b → cond b (Some v) (find cmp q rows) ≡ find cmp q rows) [ true ↦ λ e. sym is ∙ ap (λ q. find cmp q rows) (sym (same q k ((Equal-is _).0 e))) | false ↦ λ _. refl ] refl)

  -- nothing is found below all rows
  pub find_below : (rows : List (K × X)) → T (below_all cmp k rows) → find cmp k rows ≡ None
  find_below [] h = refl
  find_below (row ∷ rows) h =
      elim (cmp k row.0) as (λ o. T (is_lt o && below_all cmp k rows) → cond (is_eq o) (Some row.1) (find cmp k rows) ≡ None) [ Less ↦ λ h. find_below rows h | Equal ↦ λ h. absurd h | Greater ↦ λ h. absurd h ] h

module _ {K X : Type 0} {cmp : K → K → Ordering} (order : IsTotalOrder cmp) (P : K → X → Type 0) (row : K × X) (rows : List (K × X))
    (all : (q : K) → IfSome (find cmp q (row ∷ rows)) (P q)) where
  -- what holds of each value that is found holds of the first
  pub first_found : P row.0 row.1
  first_found = subst (λ b. IfSome (cond b (Some row.1) (find cmp row.0 rows)) (P row.0)) (ap is_eq (tied_itself order row.0)) (all row.0)

  -- and of each that is found behind it
  pub rest_found : IsAntisymmetric cmp → T (is_sorted cmp (row ∷ rows)) → (q : K) → IfSome (find cmp q rows) (P q)
  rest_found same rises q =
      elim (eq_by_cmp cmp q row.0) as (λ b. eq_by_cmp cmp q row.0 ≡ b → IfSome (cond b (Some row.1) (find cmp q rows)) (P q) → IfSome (find cmp q rows) (P q)) [
        | true ↦ λ is _.
            let none : find cmp q rows ≡ None =
            ap (λ q. find cmp q rows) (same q row.0 ((Equal-is _).0 is)) ∙ find_below order row.0 rows (first_rises (below_all cmp row.0 rows) (is_sorted cmp rows) rises) in
            subst (λ found. IfSome found (P q)) (sym none) tt
        | false ↦ λ _ p. p
      ] refl (all q)
    where
      first_rises : (a b : Bool) → T (a && b) → T a
      first_rises true b p = tt
      first_rises false b p = p
