-- How many rows an OID has.
use Rattle.std.proofs.Common.{◌≡◌, ℕ, ◌+◌, ◌≤◌, Bool, true, false, cond, ◌&&◌, ◌||◌, List, [], ◌∷◌, length, None, Some, is_some, refl, sym, ap, ◌∙◌, arith}
use Rattle.std.proofs.lemmas.Bool.{true≢false}
use Rattle.std.specs.List.{list_any, IsDistinct, AllByRecursion}
use Rattle.std.specs.Map.{keys_of}
use Rattle.std.specs.Str.{bytes_eq}
use Rattle.std.specs.declared.cmp.Ordering.TheVariants.{Equal}
use Rattle.std.specs.Cmp.Lexicographic.{nat_list_eq_equiv}
use Rattle.std.specs.FinMap.{find}
use Rattle.std.specs.FinMap.Entries.{where_key, is_sorted-where_key, find-where_key, same_entries, length-put}
use Rattle.table_model.specs.Pair.{Pair, pair, pair_cmp}
use Rattle.table_model.specs.Rows.{in_order}
use Rattle.table_model.proofs.PairLaws.{pair_order, same_pair, is_pair_by_texts}
use Rattle.table_model.proofs.RowLaws.{found_in_order, in_order_rises}
use Rattle.pair_map.specs.ByOid.{face_rows}
use Rattle.pair_map.specs.Faces.{Rows}

module _ (oid : List ℕ) {X : Type 0} where
  -- the rows of an OID
  abbrev of_oid : List (Pair × X) → List (Pair × X)
  of_oid rows = where_key pair_cmp (λ p. bytes_eq oid p.oid) rows

  -- those among rows in order are those among the rows, in order
  pub of_oid_in_order : (rows : List (Pair × X)) → of_oid (in_order pair_cmp rows) ≡ in_order pair_cmp (of_oid rows)
  of_oid_in_order rows =
      same_entries pair_cmp pair_order same_pair _ _
      (is_sorted-where_key pair_cmp (λ p. bytes_eq oid p.oid) _ (in_order_rises pair_order rows))
      (in_order_rises pair_order (of_oid rows))
      (λ q. find-where_key pair_cmp (λ p. bytes_eq oid p.oid) q (alike q) (in_order pair_cmp rows)
      ∙ ap (λ found. cond (bytes_eq oid q.oid) found None) (found_in_order pair_order q rows)
      ∙ sym (find-where_key pair_cmp (λ p. bytes_eq oid p.oid) q (alike q) rows)
      ∙ sym (found_in_order pair_order q (of_oid rows)))
    where
      alike : (q x : Pair) → pair_cmp q x ≡ Equal → bytes_eq oid x.oid ≡ bytes_eq oid q.oid
      alike q x tied = ap (λ p. bytes_eq oid p.oid) (sym (same_pair q x tied))

  -- where none has the OID there are none
  pub none_of_oid : (rows : List (Pair × X)) → list_any (λ row. bytes_eq oid row.0.oid) rows ≡ false → of_oid rows ≡ []
  none_of_oid [] none = refl
  none_of_oid (row ∷ rows) none =
      elim (bytes_eq oid row.0.oid) as (λ b. (b || list_any (λ row. bytes_eq oid row.0.oid) rows) ≡ false → cond b (row ∷ of_oid rows) (of_oid rows) ≡ []) [
        | true ↦ λ bad. absurd (true≢false bad)
        | false ↦ λ none. none_of_oid rows none
      ] none

  -- all rows of one OID have it
  pub all_of_oid : (faces : Rows X) → of_oid (face_rows oid faces) ≡ face_rows oid faces
  all_of_oid [] = refl
  all_of_oid (f ∷ faces) = λ i. cond (nat_list_eq_equiv.refl oid i) ((pair oid f.0, f.1) ∷ all_of_oid faces i) (all_of_oid faces i)

  -- a face that is none of some has no row among theirs
  none_found : (face : List ℕ) (faces : Rows X) → AllByRecursion (λ y. bytes_eq face y ≡ false) (keys_of faces)
      → find pair_cmp (pair oid face) (face_rows oid faces) ≡ None
  none_found face [] apart = refl
  none_found face (f ∷ faces) apart =
      ap (λ b. cond b (Some f.1) (find pair_cmp (pair oid face) (face_rows oid faces)))
      (is_pair_by_texts (pair oid face) (pair oid f.0) ∙ ap (λ b. bytes_eq oid oid && b) apart.0 ∙ and_false (bytes_eq oid oid))
      ∙ none_found face faces apart.1
    where
      and_false : (a : Bool) → (a && false) ≡ false
      and_false true = refl
      and_false false = refl

  -- rows of distinct faces are as many in order
  pub as_many : (faces : Rows X) → IsDistinct bytes_eq (keys_of faces) → length (in_order pair_cmp (face_rows oid faces)) ≡ length faces
  unfolding IsDistinct
  as_many [] d = refl
  as_many (f ∷ faces) d =
      let rest = as_many faces d.1 in
      let new = found_in_order pair_order (pair oid f.0) (face_rows oid faces) ∙ none_found f.0 faces d.0 in
      length-put pair_cmp pair_order (pair oid f.0) f.1 _ (in_order_rises pair_order (face_rows oid faces))
      ∙ ap (λ found. cond (is_some found) (length (in_order pair_cmp (face_rows oid faces))) (length (in_order pair_cmp (face_rows oid faces)) + 1)) new
      ∙ omega (arith, rest)

-- at most one face is distinct from all others
pub few_distinct : {X : Type 0} (faces : Rows X) → length faces ≤ 1 → IsDistinct bytes_eq (keys_of faces)
unfolding IsDistinct
few_distinct [] few = tt
few_distinct (f ∷ []) few = (tt, tt)
few_distinct (f ∷ g ∷ faces) few = let bad : ⊥ = omega arith in absurd bad
