-- The rows of living objects, before and after one of them changes.
use Rattle.std.proofs.Common.{◌≡◌, ℕ, ◌<◌, Bool, true, false, cond, List, [], ◌∷◌, length, Option, None, Some, IsSome, refl, sym, ap, ◌∙◌, subst, option_map}
use Rattle.std.specs.Prelude.{T, ◌&&◌}
use Rattle.std.specs.Option.{IsSomeAnd}
use Rattle.std.specs.BTreeMap as tree
use Rattle.std.specs.declared.cmp.Ordering.TheVariants.{Less}
use Rattle.std.specs.List.{AllByRecursion}
use Rattle.std.specs.List.Sorted.{IsStrictlySortedBy}
use Rattle.std.specs.Map.{lookup, keys_of}
use Rattle.std.specs.Cmp.{nat_cmp_total, eq_by_cmp_equiv}
use Rattle.std.specs.Ordering.{nat_cmp, is_lt, eq_by_cmp}
use Rattle.std.specs.FinMap.{find, put, is_sorted, nat_cmp-IsAntisymmetric}
use Rattle.std.specs.FinMap.Entries.{below_all, find-put, is_sorted-put, is_sorted-where_key, same_entries}
use Rattle.table_model.specs.Objects as model
use Rattle.table_model.specs.Rows.{without}
use Rattle.table_model.proofs.RowLaws.{found_without}
use Rattle.object_store.specs.Rows.{plain, object_rows}
use Rattle.object_store.specs.declared.object.Object.{Object}

-- both tests are passed
pub both : (a b : Bool) → T a → T b → T (a && b)
both true b p q = q
both false b p q = p

module _ {V : Type 0} where
  mapped : (b : Bool) (o other : Option (Object V)) → option_map plain (cond b o other) ≡ cond b (option_map plain o) (option_map plain other)
  mapped true o other = refl
  mapped false o other = refl

  -- what is found in the rows is what the map has
  pub found_rows : (q : ℕ) (es : List (ℕ × Object V)) → find nat_cmp q (object_rows es) ≡ option_map plain (lookup (tree.is_at (nat_cmp q)) es)
  found_rows q [] = refl
  found_rows q (e ∷ es) = ap (cond (eq_by_cmp nat_cmp q e.0) (Some (plain e.1))) (found_rows q es) ∙ sym (mapped (eq_by_cmp nat_cmp q e.0) (Some e.1) (lookup (tree.is_at (nat_cmp q)) es))

  under : (n : ℕ) (es : List (ℕ × Object V)) → AllByRecursion (λ y. nat_cmp n y ≡ Less) (keys_of es) → T (below_all nat_cmp n (object_rows es))
  under n [] h = tt
  under n (e ∷ es) h = both _ _ (subst (λ o. T (is_lt o)) (sym h.0) tt) (under n es h.1)

  rising : (es : List (ℕ × Object V)) → IsStrictlySortedBy nat_cmp (keys_of es) → T (is_sorted nat_cmp (object_rows es))
  unfolding IsStrictlySortedBy
  rising [] h = tt
  rising (e ∷ es) h = both _ _ (under e.0 es h.0) (rising es h.1)

  -- the rows of an ordered map rise
  pub rows_rise : (m : tree.BTreeMap ℕ (Object V)) → tree.IsOrdered nat_cmp m → T (is_sorted nat_cmp (object_rows m.entries))
  rows_rise m ordered = rising m.entries ordered

  module _ (m n : tree.BTreeMap ℕ (Object V)) (ordered : tree.IsOrdered nat_cmp m) (ordered_after : tree.IsOrdered nat_cmp n) (k : ℕ) where
    -- what is found after an object is put in the map or taken out
    pub found_after : (w : Option (Object V)) → tree.UpdatesBy nat_cmp (nat_cmp k) m n w → (q : ℕ) → find nat_cmp q (object_rows n.entries) ≡ cond (eq_by_cmp nat_cmp q k) (option_map plain w) (find nat_cmp q (object_rows m.entries))
    found_after w up q =
        found_rows q n.entries ∙ ap (option_map plain) (up.0 q) ∙ mapped (eq_by_cmp nat_cmp k q) w (lookup (tree.is_at (nat_cmp q)) m.entries)
        ∙ (λ i. cond ((eq_by_cmp_equiv nat_cmp_total).symm k q i) (option_map plain w) (sym (found_rows q m.entries) i))

    -- an object put in the map is put in the rows
    pub rows_put : (o : Object V) → tree.UpdatesBy nat_cmp (nat_cmp k) m n (Some o) → object_rows n.entries ≡ put nat_cmp k (plain o) (object_rows m.entries)
    rows_put o up =
        same_entries nat_cmp nat_cmp_total nat_cmp-IsAntisymmetric _ _ (rows_rise n ordered_after) (is_sorted-put nat_cmp nat_cmp_total k (plain o) (object_rows m.entries) (rows_rise m ordered))
        (λ q. found_after (Some o) up q ∙ sym (find-put nat_cmp nat_cmp_total q k (plain o) (object_rows m.entries)))

    -- an object taken out of the map is taken out of the rows
    pub rows_without : tree.UpdatesBy nat_cmp (nat_cmp k) m n None → object_rows n.entries ≡ without nat_cmp k (object_rows m.entries)
    rows_without up =
        same_entries nat_cmp nat_cmp_total nat_cmp-IsAntisymmetric _ _ (rows_rise n ordered_after) (is_sorted-where_key nat_cmp _ (object_rows m.entries) (rows_rise m ordered))
        (λ q. found_after None up q ∙ sym (found_without nat_cmp_total q k (object_rows m.entries)))

  module _ (m : tree.BTreeMap ℕ (Object V)) (k : ℕ) where
    -- an object that is found lives
    pub is_found : (x : Object V) → Some x ≡ tree.get_by (nat_cmp k) m → find nat_cmp k (object_rows m.entries) ≡ Some (plain x)
    is_found x is = found_rows k m.entries ∙ ap (option_map plain) (sym is)

    -- it is the one that the map has
    pub is_one : (x : Object V) (o : model.Object V) → Some x ≡ tree.get_by (nat_cmp k) m → find nat_cmp k (object_rows m.entries) ≡ Some o → plain x ≡ o
    is_one x o is found = let e : Some (plain x) ≡ Some o = sym (is_found x is) ∙ found in cc

    -- an object that lives is in the map
    pub not_missing : (o : model.Object V) → find nat_cmp k (object_rows m.entries) ≡ Some o → ¬ (None ≡ tree.get_by (nat_cmp k) m)
    not_missing o found none = let e : None ≡ Some o = sym (found_rows k m.entries ∙ ap (option_map plain) (sym none)) ∙ found in cc

    -- so a map that lacks it lacks its row
    pub missing : IsSome (find nat_cmp k (object_rows m.entries)) → None ≡ tree.get_by (nat_cmp k) m → ⊥
    missing there none = let e : false ≡ true = subst IsSome (found_rows k m.entries ∙ ap (option_map plain) (sym none)) there in cc

    pub missing_field : (place : ℕ) → IsSomeAnd (find nat_cmp k (object_rows m.entries)) (λ o. place < length o.fields) → None ≡ tree.get_by (nat_cmp k) m → ⊥
    missing_field place there none = subst (λ o. IsSomeAnd o (λ o. place < length o.fields)) (found_rows k m.entries ∙ ap (option_map plain) (sym none)) there

    -- the object that is found has the field
    pub has_field : (place : ℕ) (x : Object V) → IsSomeAnd (find nat_cmp k (object_rows m.entries)) (λ o. place < length o.fields) → Some x ≡ tree.get_by (nat_cmp k) m → place < length x.fields.items
    has_field place x there is = subst (λ o. IsSomeAnd o (λ o. place < length o.fields)) (is_found x is) there
