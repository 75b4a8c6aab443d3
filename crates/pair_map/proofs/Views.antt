-- The map of pairs as rows in order, before and after a change.
use Rattle.std.proofs.Common.{◌≡◌, ℕ, Bool, true, false, ◌+◌, cond, not, List, [], length, Option, None, Some, refl, sym, ap, ◌∙◌, arith}
use Rattle.std.proofs.lemmas.List.Filters.{length-filter_both}
use Rattle.std.specs.HashMap.{HashMap, IsUnique}
use Rattle.std.specs.List.{list_any}
use Rattle.std.specs.Str.{bytes_eq}
use Rattle.std.specs.FinMap.{find, put}
use Rattle.std.specs.FinMap.Entries.{is_sorted-where_key, find-where_key, same_entries}
use Rattle.table_model.specs.Pair.{Pair, pair, pair_cmp, is_pair, without_oid}
use Rattle.table_model.specs.Rows.{in_order, without}
use Rattle.table_model.proofs.PairLaws.{pair_order, same_pair}
use Rattle.table_model.proofs.RowLaws.{found_in_order, in_order_rises, in_order_put, in_order_without, in_order_same, any_in_order}
use Rattle.pair_map.specs.ByOid.{at_pair, pair_rows, how_many_of}
use Rattle.pair_map.specs.Faces.{Rows}
use Rattle.pair_map.proofs.Reading.{found_rows}

module _ {X S : Type 0} (m : HashMap (List ℕ) (Rows X) S) (unique : IsUnique bytes_eq m) (rows : List (Pair × X))
    (is : in_order pair_cmp (pair_rows m.entries) ≡ rows) (p q : Pair) (same : p ≡ q) where
  -- what the maps have at a pair is found in the rows
  pub found_at : at_pair m p ≡ find pair_cmp q rows
  found_at = sym (found_rows p m.entries unique) ∙ sym (found_in_order pair_order p (pair_rows m.entries)) ∙ (λ i. find pair_cmp (same i) (is i))

  module _ (n : HashMap (List ℕ) (Rows X) S) (unique_after : IsUnique bytes_eq n) where
    found_after : (w : Option X) → ((r : Pair) → at_pair n r ≡ cond (is_pair r p) w (at_pair m r))
        → (r : Pair) → find pair_cmp r (pair_rows n.entries) ≡ cond (is_pair r p) w (find pair_cmp r (pair_rows m.entries))
    found_after w change r =
        found_rows r n.entries unique_after ∙ change r ∙ ap (cond (is_pair r p) w) (sym (found_rows r m.entries unique))

    -- a value put at a pair is put in the rows
    pub put_at : (v : X) → ((r : Pair) → at_pair n r ≡ cond (is_pair r p) (Some v) (at_pair m r))
        → in_order pair_cmp (pair_rows n.entries) ≡ put pair_cmp q v rows
    put_at v change =
        in_order_put pair_order same_pair (pair_rows m.entries) (pair_rows n.entries) p v (found_after (Some v) change)
        ∙ (λ i. put pair_cmp (same i) v (is i))

    -- a pair without a value is without a row
    pub without_at : ((r : Pair) → at_pair n r ≡ cond (is_pair r p) None (at_pair m r))
        → in_order pair_cmp (pair_rows n.entries) ≡ without pair_cmp q rows
    without_at change =
        in_order_without pair_order same_pair (pair_rows m.entries) (pair_rows n.entries) p (found_after None change)
        ∙ (λ i. without pair_cmp (same i) (is i))

    -- maps that have the same have the same rows
    pub same_at : ((r : Pair) → at_pair n r ≡ at_pair m r) → in_order pair_cmp (pair_rows n.entries) ≡ rows
    same_at change =
        in_order_same pair_order same_pair (pair_rows m.entries) (pair_rows n.entries)
        (λ r. found_rows r n.entries unique_after ∙ change r ∙ sym (found_rows r m.entries unique))
        ∙ is

-- whether a row passes a test of an OID
pub any_at : (test : List ℕ → Pair → Bool) {X S : Type 0} (m : HashMap (List ℕ) (Rows X) S) (rows : List (Pair × X))
    → in_order pair_cmp (pair_rows m.entries) ≡ rows → (o oid : List ℕ) → o ≡ oid
    → list_any (λ row. test o row.0) (pair_rows m.entries) ≡ list_any (λ row. test oid row.0) rows
any_at test m rows is o oid same =
    any_in_order same_pair (test o) (pair_rows m.entries)
    ∙ (λ i. list_any (λ row. test (same i) row.0) (is i))

turned : {X : Type 0} (b : Bool) (x y : Option X) → cond (not b) x y ≡ cond b y x
turned true x y = refl
turned false x y = refl

-- maps of which the second lacks one OID have rows of which the second lacks it
pub taken_at : {X S : Type 0} (m n : HashMap (List ℕ) (Rows X) S) (rows : List (Pair × X)) (o oid : List ℕ)
    → IsUnique bytes_eq m → IsUnique bytes_eq n → in_order pair_cmp (pair_rows m.entries) ≡ rows → o ≡ oid
    → ((r : Pair) → at_pair n r ≡ cond (bytes_eq o r.oid) None (at_pair m r))
    → in_order pair_cmp (pair_rows n.entries) ≡ without_oid oid rows
taken_at m n rows o oid unique unique_after is same change =
    same_entries pair_cmp pair_order same_pair _ _ (in_order_rises pair_order (pair_rows n.entries))
    (is_sorted-where_key pair_cmp (λ p. not (bytes_eq o p.oid)) _ (in_order_rises pair_order (pair_rows m.entries)))
    (λ q. found_in_order pair_order q (pair_rows n.entries) ∙ found_rows q n.entries unique_after ∙ change q
    ∙ ap (cond (bytes_eq o q.oid) None) (sym (found_rows q m.entries unique) ∙ sym (found_in_order pair_order q (pair_rows m.entries)))
    ∙ sym (turned (bytes_eq o q.oid) _ _)
    ∙ sym (find-where_key pair_cmp (λ p. not (bytes_eq o p.oid)) q (λ x tied. ap (λ p. not (bytes_eq o p.oid)) (sym (same_pair q x tied))) (in_order pair_cmp (pair_rows m.entries))))
    ∙ (λ i. without_oid (same i) (is i))

-- and with as many as go those that stay are all
pub number_taken : {X S : Type 0} (m n : HashMap (List ℕ) (Rows X) S) (rows : List (Pair × X)) (o : List ℕ)
    → IsUnique bytes_eq m → IsUnique bytes_eq n → in_order pair_cmp (pair_rows m.entries) ≡ rows
    → ((r : Pair) → at_pair n r ≡ cond (bytes_eq o r.oid) None (at_pair m r))
    → (number : ℕ) → how_many_of o (pair_rows m.entries) ≡ number
    → length (in_order pair_cmp (pair_rows n.entries)) + number ≡ length rows
number_taken m n rows o unique unique_after is change number many =
    let all = length-filter_both (λ row. bytes_eq o row.0.oid) (λ row. not (bytes_eq o row.0.oid)) (λ row. refl) (in_order pair_cmp (pair_rows m.entries)) in
    let stay = ap length (taken_at m n _ o o unique unique_after refl refl change) in
    let long = ap length is in
    omega (arith, all, stay, long, many)
