-- What is read of the rows of all pairs.
use Rattle.std.proofs.Common.{◌≡◌, ℕ, Bool, true, false, cond, ◌&&◌, ◌||◌, not, List, [], ◌∷◌, ◌++◌, Option, None, Some}
use Rattle.std.proofs.Common.{refl, sym, ap, ◌∙◌, length, arith, IsTrue, ◌↔◌}
use Rattle.std.specs.List.{list_any, IsDistinct, AllByRecursion}
use Rattle.std.specs.Map.{lookup, keys_of}
use Rattle.std.specs.Str.{bytes_eq}
use Rattle.std.specs.Cmp.Lexicographic.{nat_list_eq_equiv}
use Rattle.std.specs.FinMap.{find}
use Rattle.table_model.specs.Pair.{Pair, pair, pair_cmp}
use Rattle.table_model.proofs.PairLaws.{is_pair_by_texts}
use Rattle.pair_map.specs.ByOid.{at_face, face_rows, pair_rows}
use Rattle.pair_map.specs.Faces.{Rows, value_of, any_face}

-- the first of two options that has a value
abbrev or_else : {X : Type 0} → Option X → Option X → Option X
or_else None other = other
or_else (Some x) other = Some x

-- whether a list has an item
abbrev pub has_items : {A : Type 0} → List A → Bool
has_items [] = false
has_items (x ∷ xs) = true

-- whether the rows that are there have a face
abbrev pub has_faces : {X : Type 0} → Option (Rows X) → Bool
has_faces None = false
has_faces (Some faces) = has_items faces

-- a text that is the first of distinct keys is none of the others
absent : {B : Type 0} (text : List ℕ) (key : List ℕ) (es : List (List ℕ × B)) → bytes_eq text key ≡ true
    → AllByRecursion (λ y. bytes_eq key y ≡ false) (keys_of es) → lookup (bytes_eq text) es ≡ None
absent text key [] is apart = refl
absent text key (e ∷ es) is apart =
    let same = nat_list_eq_equiv.symm key text ∙ is in
    let other : bytes_eq text e.0 ≡ false = sym (nat_list_eq_equiv.congr key text e.0 same) ∙ apart.0 in
    ap (λ b. cond b (Some e.1) (lookup (bytes_eq text) es)) other ∙ absent text key es is apart.1

chosen : {X : Type 0} (a b : Bool) (x : X) (found rest : Option X)
    → cond (a && b) (Some x) (cond a (or_else found rest) rest) ≡ cond a (or_else (cond b (Some x) found) rest) rest
chosen true true x found rest = refl
chosen true false x found rest = refl
chosen false b x found rest = refl

none_first : {X : Type 0} (a : Bool) (rest : Option X) → rest ≡ cond a rest rest
none_first true rest = refl
none_first false rest = refl

-- of the rows of one OID and others, the first that fits is found
found_face : {X : Type 0} (oid : List ℕ) (q : Pair) (faces : Rows X) (rest : List (Pair × X))
    → find pair_cmp q (face_rows oid faces ++ rest)
    ≡ cond (bytes_eq q.oid oid) (or_else (value_of q.face faces) (find pair_cmp q rest)) (find pair_cmp q rest)
found_face oid q [] rest = none_first (bytes_eq q.oid oid) (find pair_cmp q rest)
found_face oid q (f ∷ faces) rest =
    ap (λ b. cond b (Some f.1) (find pair_cmp q (face_rows oid faces ++ rest))) (is_pair_by_texts q (pair oid f.0))
    ∙ ap (cond (bytes_eq q.oid oid && bytes_eq q.face f.0) (Some f.1)) (found_face oid q faces rest)
    ∙ chosen (bytes_eq q.oid oid) (bytes_eq q.face f.0) f.1 _ _

or_none : {X : Type 0} (found : Option X) → or_else found None ≡ found
or_none None = refl
or_none (Some x) = refl

no_more : (a b : Bool) → b ≡ ((a && false) || b)
no_more true b = refl
no_more false b = refl

one_more : (a t h b : Bool) → ((a && t) || ((a && h) || b)) ≡ ((a && (t || h)) || b)
one_more true true h b = refl
one_more true false h b = refl
one_more false t h b = refl

or_false : (a : Bool) → (a || false) ≡ a
or_false true = refl
or_false false = refl

module _ (oid : List ℕ) (test : List ℕ → Bool) {X : Type 0} where
  -- whether a row has an OID, and a face that passes a test
  abbrev any_passes : List (Pair × X) → Bool
  any_passes rows = list_any (λ row. bytes_eq oid row.0.oid && test row.0.face) rows

  -- of the rows of one OID and others, some do
  any_face_passes : (other : List ℕ) (faces : Rows X) (rest : List (Pair × X))
      → any_passes (face_rows other faces ++ rest) ≡ ((bytes_eq oid other && any_face test (Some faces)) || any_passes rest)
  any_face_passes other [] rest = no_more (bytes_eq oid other) _
  any_face_passes other (f ∷ faces) rest =
      ap (λ b. (bytes_eq oid other && test f.0) || b) (any_face_passes other faces rest)
      ∙ one_more (bytes_eq oid other) (test f.0) (any_face test (Some faces)) _

module _ {X : Type 0} where
  -- what is found in the rows is what the maps have
  pub found_rows : (q : Pair) (es : List (List ℕ × Rows X)) → IsDistinct bytes_eq (keys_of es)
      → find pair_cmp q (pair_rows es) ≡ at_face (lookup (bytes_eq q.oid) es) q.face
  unfolding IsDistinct
  found_rows q [] d = refl
  found_rows q (e ∷ es) d =
      let rest = found_rows q es d.1 in
      found_face e.0 q e.1 (pair_rows es)
      ∙ elim (bytes_eq q.oid e.0) as (λ a. bytes_eq q.oid e.0 ≡ a
      → cond a (or_else (value_of q.face e.1) (find pair_cmp q (pair_rows es))) (find pair_cmp q (pair_rows es))
      ≡ at_face (cond a (Some e.1) (lookup (bytes_eq q.oid) es)) q.face) [
        | true ↦ λ is. ap (or_else (value_of q.face e.1)) (rest ∙ ap (λ faces. at_face faces q.face) (absent q.oid e.0 es is d.0)) ∙ or_none _
        | false ↦ λ is. rest
      ] refl

  -- a row has an OID and a face that passes a test where a face of the map at the OID does
  pub any_passing : (oid : List ℕ) (test : List ℕ → Bool) (es : List (List ℕ × Rows X)) → IsDistinct bytes_eq (keys_of es)
      → any_passes oid test (pair_rows es) ≡ any_face test (lookup (bytes_eq oid) es)
  unfolding IsDistinct
  any_passing oid test [] d = refl
  any_passing oid test (e ∷ es) d =
      let rest = any_passing oid test es d.1 in
      any_face_passes oid test e.0 e.1 (pair_rows es)
      ∙ elim (bytes_eq oid e.0) as (λ a. bytes_eq oid e.0 ≡ a
      → ((a && any_face test (Some e.1)) || any_passes oid test (pair_rows es))
      ≡ any_face test (cond a (Some e.1) (lookup (bytes_eq oid) es))) [
        | true ↦ λ is. ap (λ b. any_face test (Some e.1) || b) (rest ∙ ap (any_face test) (absent oid e.0 es is d.0)) ∙ or_false (any_face test (Some e.1))
        | false ↦ λ is. rest
      ] refl

  -- a row has an OID where the map at the OID has a face
  pub any_row : (oid : List ℕ) (es : List (List ℕ × Rows X)) → IsDistinct bytes_eq (keys_of es)
      → list_any (λ row. bytes_eq oid row.0.oid) (pair_rows es) ≡ has_faces (lookup (bytes_eq oid) es)
  any_row oid es d =
      (λ i. list_any (λ row. and_true (bytes_eq oid row.0.oid) i) (pair_rows es))
      ∙ any_passing oid (λ face. true) es d
      ∙ any_there (lookup (bytes_eq oid) es)
    where
      and_true : (a : Bool) → a ≡ (a && true)
      and_true true = refl
      and_true false = refl

      any_there : (found : Option (Rows X)) → any_face (λ face. true) found ≡ has_faces found
      any_there None = refl
      any_there (Some []) = refl
      any_there (Some (f ∷ faces)) = refl

pub filled : {A : Type 0} (xs : List A) (empty : Bool) → IsTrue empty ↔ (length xs ≡ 0) → not empty ≡ has_items xs
filled [] empty is = ap not (is.1 refl)
filled (x ∷ xs) true is = let bad : ⊥ = omega (arith, is.0 refl) in absurd bad
filled (x ∷ xs) false is = refl

-- a map without rows has nothing at a pair
pub nothing_at : {X : Type 0} (text face : List ℕ) (es : List (List ℕ × Rows X)) → length es ≡ 0 → None ≡ at_face (lookup (bytes_eq text) es) face
nothing_at text face [] none = refl
nothing_at text face (e ∷ es) none = absurd (omega (arith, none))
