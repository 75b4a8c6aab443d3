-- The rows of all pairs, after the last OID is taken out.
use Rattle.std.proofs.Common.{◌≡◌, ℕ, ◌<◌, Bool, true, false, ◌||◌, List, [], ◌∷◌, ◌++◌, length, None, refl, sym, ap, ◌∙◌, arith, append_assoc, length-append}
use Rattle.std.proofs.lemmas.List.{append-nil}
use Rattle.std.proofs.lemmas.List.Elements.{filter-append}
use Rattle.std.proofs.lemmas.List.Folds.{list_any-append}
use Rattle.std.specs.List.{list_any, IsDistinct}
use Rattle.std.specs.Map.{lookup, keys_of}
use Rattle.std.specs.HashMap.{HashMap, IsUnique}
use Rattle.std.specs.Str.{bytes_eq}
use Rattle.std.specs.Cmp.Lexicographic.{nat_list_eq_equiv}
use Rattle.std.specs.FinMap.{find}
use Rattle.table_model.specs.Pair.{Pair, pair_cmp}
use Rattle.table_model.specs.Rows.{in_order}
use Rattle.pair_map.specs.ByOid.{at_pair, face_rows, pair_rows, how_many_of}
use Rattle.pair_map.specs.Faces.{Rows}
use Rattle.pair_map.proofs.Counting.{of_oid_in_order, none_of_oid, all_of_oid, as_many}
use Rattle.pair_map.proofs.Reading.{any_row, found_rows, has_faces}

module _ {X : Type 0} (key : List ℕ) (faces : Rows X) where
  rows_with_last : (es : List (List ℕ × Rows X)) → pair_rows (es ++ (key, faces) ∷ []) ≡ pair_rows es ++ face_rows key faces
  rows_with_last [] = append-nil (face_rows key faces)
  rows_with_last (e ∷ es) =
      ap (λ rest. face_rows e.0 e.1 ++ rest) (rows_with_last es)
      ∙ sym (append_assoc (face_rows e.0 e.1) (pair_rows es) (face_rows key faces))

  module _ (old new : List (List ℕ × Rows X)) (last : old ≡ new ++ (key, faces) ∷ []) where
    any_of_faces : (faces : Rows X) → 0 < length faces → list_any (λ row. bytes_eq key row.0.oid) (face_rows key faces) ≡ true
    any_of_faces [] some = let bad : ⊥ = omega arith in absurd bad
    any_of_faces (f ∷ faces) some = ap (λ b. b || list_any (λ row. bytes_eq key row.0.oid) (face_rows key faces)) (nat_list_eq_equiv.refl key)

    -- an OID that has a face was there
    pub some_rows : 0 < length faces → list_any (λ row. bytes_eq key row.0.oid) (pair_rows old) ≡ true
    some_rows some =
        ap (list_any (λ row. bytes_eq key row.0.oid)) (ap pair_rows last ∙ rows_with_last new)
        ∙ list_any-append (λ row. bytes_eq key row.0.oid) (pair_rows new) (face_rows key faces)
        ∙ ap (λ c. list_any (λ row. bytes_eq key row.0.oid) (pair_rows new) || c) (any_of_faces faces some)
        ∙ or_true (list_any (λ row. bytes_eq key row.0.oid) (pair_rows new))
      where
        or_true : (a : Bool) → (a || true) ≡ true
        or_true true = refl
        or_true false = refl

    -- as many rows go as there are faces, where no other OID is the same
    pub rows_go : IsDistinct bytes_eq (keys_of new) → lookup (bytes_eq key) new ≡ None → IsDistinct bytes_eq (keys_of faces)
        → how_many_of key (pair_rows old) ≡ length faces
    rows_go distinct none apart =
        let others = any_row key new distinct ∙ ap has_faces none in
        ap (how_many_of key) (ap pair_rows last ∙ rows_with_last new)
        ∙ ap length (of_oid_in_order key (pair_rows new ++ face_rows key faces))
        ∙ ap (λ rows. length (in_order pair_cmp rows)) (filter-append _ (pair_rows new) (face_rows key faces))
        ∙ (λ i. length (in_order pair_cmp (none_of_oid key (pair_rows new) others i ++ all_of_oid key faces i)))
        ∙ as_many key faces apart

-- maps with the same rows have the same at each pair
pub same_in_rows : {X S : Type 0} (m n : HashMap (List ℕ) (Rows X) S) → IsUnique bytes_eq m → IsUnique bytes_eq n → pair_rows n.entries ≡ pair_rows m.entries
    → (q : Pair) → at_pair n q ≡ at_pair m q
same_in_rows m n unique unique_too same q = sym (found_rows q n.entries unique_too) ∙ ap (find pair_cmp q) same ∙ found_rows q m.entries unique
