-- What clap's rows show of an argument after one more use.
use Rattle.std.proofs.Common.{◌≡◌, ◌∙◌, Bool, true, false, List, [], ◌∷◌, ◌++◌, None, Some, refl, ap}
use Rattle.std.specs.Prelude.{unwrap_or}
use Rattle.std.specs.Str.{bytes_eq}
use Rattle.std.proofs.lemmas.Slice.Eq.{bytes_eq-Decides}
use Rattle.clap.specs.Walk.{Row, Text, all_of, has_row, with_values, without}
use Rattle.clap.specs.declared.builder.value_parser.Reading.{Reading}
use Rattle.clap.specs.declared.parser.matches.ValueSource.{ValueSource}

-- no row has the id
none_has : (id : Text) (r : Row) (rs : List Row) (b : Bool) → bytes_eq r.id id ≡ b → (all_of id rs ≡ None → has_row id rs ≡ false) → all_of id (r ∷ rs) ≡ None → has_row id (r ∷ rs) ≡ false
none_has id r rs true e next h = let bad : ⊥ = cc in absurd bad
none_has id r rs false e next h = rw e (next (rw e at h))

pub has_none : (id : Text) (rows : List Row) → all_of id rows ≡ None → has_row id rows ≡ false
has_none id [] h = refl
has_none id (r ∷ rs) h = none_has id r rs (bytes_eq r.id id) refl (has_none id rs) h

without_next : (id : Text) (r : Row) (rs : List Row) (b : Bool) → bytes_eq r.id id ≡ b → (has_row id rs ≡ false → without id rs ≡ rs) → has_row id (r ∷ rs) ≡ false → without id (r ∷ rs) ≡ r ∷ rs
without_next id r rs true e next h = let bad : ⊥ = cc in absurd bad
without_next id r rs false e next h = rw e (ap (λ xs. r ∷ xs) (next (rw e at h)))

pub without_none : (id : Text) (rows : List Row) → has_row id rows ≡ false → without id rows ≡ rows
without_none id [] h = refl
without_none id (r ∷ rs) h = without_next id r rs (bytes_eq r.id id) refl (without_none id rs) h

module _ (id : Text) (how : Reading) (s : ValueSource) (values : List Text) where
  same_next : (r : Row) (rs : List Row) (b : Bool) → bytes_eq r.id id ≡ b → all_of id (with_values id how s values rs) ≡ Some (unwrap_or (all_of id rs) [] ++ values)
      → all_of id (with_values id how s values (r ∷ rs)) ≡ Some (unwrap_or (all_of id (r ∷ rs)) [] ++ values)
  same_next r rs true e next = rw (e, e) refl
  same_next r rs false e next = rw (e, e) next

  -- the values stand behind those that were there
  pub added_same : (rows : List Row) → all_of id (with_values id how s values rows) ≡ Some (unwrap_or (all_of id rows) [] ++ values)
  added_same [] = rw ((bytes_eq-Decides id id).1 refl) refl
  added_same (r ∷ rs) = same_next r rs (bytes_eq r.id id) refl (added_same rs)

  module _ (other : Text) (differ : bytes_eq id other ≡ false) where
    other_next : (r : Row) (rs : List Row) (b : Bool) → bytes_eq r.id id ≡ b → all_of other (with_values id how s values rs) ≡ all_of other rs
        → all_of other (with_values id how s values (r ∷ rs)) ≡ all_of other (r ∷ rs)
    other_next r rs true e next =
        let is : r.id ≡ id = (bytes_eq-Decides r.id id).0 e in
        let no_other : bytes_eq r.id other ≡ false = ap (λ i. bytes_eq i other) is ∙ differ in
        rw (e, no_other) refl
    other_next r rs false e next = rw e (beside (bytes_eq r.id other) refl)
      where
        beside : (b : Bool) → bytes_eq r.id other ≡ b → all_of other (r ∷ with_values id how s values rs) ≡ all_of other (r ∷ rs)
        beside true e = rw e refl
        beside false e = rw e next

    -- other arguments show the same
    pub added_other : (rows : List Row) → all_of other (with_values id how s values rows) ≡ all_of other rows
    added_other [] = rw differ refl
    added_other (r ∷ rs) = other_next r rs (bytes_eq r.id id) refl (added_other rs)
