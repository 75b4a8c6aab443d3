-- Fields by their names: what stands at the place of the first one of a name.
use Rattle.std.proofs.Common.{◌≡◌, ℕ, zero, suc, ◌+◌, ◌<◌, ◌≤◌, nat_lt, Bool, true, false, not, ◌==◌, cond, None, Some, List, [], ◌∷◌, length, map, take, get_or, slice_set, Option, unwrap_or, refl, sym, ap, ◌∙◌, arith}
use Rattle.std.specs.List.{position, prefix_len}
use Rattle.std.proofs.lemmas.Bool.{ltb-false}
use Rattle.std.specs.Str.{bytes_eq}
use Rattle.uno_model.specs.Entities.{Field}
use Rattle.uno_model.specs.Values.{Plain, Ref, refs, void}
use Rattle.plan_model.specs.Evaluation.{value_under}
use Rattle.plan_model.specs.Holdings.{put}
use Rattle.bridge_model.specs.Applying.{behaviour_number}
use Rattle.bridge_model.specs.Objects.{as_variables, field_values, fields_of, object_numbered, variables_of, with_fields}
use Rattle.table_model.specs.declared.holder.Holder.TheVariants as holder
use Rattle.bridge_model.specs.References.{gains_all, lets_go_all}
use Rattle.bridge_model.specs.Settings.{Setting}
use Rattle.bridge_model.specs.Sides.{Object}
use Rattle.bridge_objects.specs.Kept as kept
use Rattle.bridge_tables.specs.EndTables.{EndTables, on_tables}
use Rattle.bridge_tables.specs.Fields.{sets_field_of, with_values}
use Rattle.bridge_tables.proofs.LastingLemmas.{objects_stay}

below_none : {A : Type 0} (i : ℕ) → i < 0 → A
below_none i below = absurd (omega (arith, below))

-- values without fields are none
pub cut_values : (fs : List Field) (vs : List Plain) → as_variables fs (take (length fs) vs) ≡ as_variables fs vs
unfolding as_variables
cut_values [] vs = refl
cut_values (f ∷ fs) [] = refl
cut_values (f ∷ fs) (v ∷ vs) = ap (λ xs. record { name = f.name; value = v } ∷ xs) (cut_values fs vs)

values_again : (fs : List Field) (vs : List Plain) → length vs ≤ length fs → field_values (as_variables fs vs) ≡ vs
unfolding as_variables
values_again [] [] few = refl
values_again [] (v ∷ vs) few = below_none (length vs) (omega (arith, few))
values_again (f ∷ fs) [] few = refl
values_again (f ∷ fs) (v ∷ vs) few = ap (λ xs. v ∷ xs) (values_again fs vs (omega (arith, few)))

-- ---- where the first of a name is

passes_by : {X : Type 0} (q : X → Bool) (x d : X) (xs : List X) (k : ℕ) (b : Bool) → q x ≡ b → k < cond b (1 + prefix_len q xs) 0 → ((j : ℕ) → j < prefix_len q xs → q (get_or xs j d) ≡ true)
    → q (get_or (x ∷ xs) k d) ≡ true
passes_by q x d xs k false is below later = below_none k below
passes_by q x d xs zero true is below later = is
passes_by q x d xs (suc j) true is below later = later j (omega (arith, below))

passes : {X : Type 0} (q : X → Bool) (xs : List X) (k : ℕ) (d : X) → k < prefix_len q xs → q (get_or xs k d) ≡ true
passes q [] k d below = below_none k below
passes q (x ∷ xs) k d below = passes_by q x d xs k (q x) refl below (λ j less. passes q xs j d less)

none_before : (m n : ℕ) (b : Bool) → nat_lt m n ≡ b → cond b (Some m) None ≡ None → n ≤ m
none_before m n true is none = let bad : ⊥ = cc in absurd bad
none_before m n false is none = ltb-false m n is

not_so : (b : Bool) → not b ≡ true → b ≡ false
not_so false is = refl
not_so true is = sym is

-- what is found nowhere passes the test nowhere
pub nowhere : {X : Type 0} (p : X → Bool) (xs : List X) (d : X) → position p xs ≡ None → (k : ℕ) → k < length xs → p (get_or xs k d) ≡ false
nowhere p xs d is k below =
    let m = prefix_len (λ x. not (p x)) xs in
    let all : length xs ≤ m = none_before m (length xs) (nat_lt m (length xs)) refl is in
    not_so (p (get_or xs k d)) (passes (λ x. not (p x)) xs k d (omega (arith, below, all)))

module _ (name : List ℕ) (d : Field) where
  -- none of the first so many fields has the name
  abbrev pub Misses : List Field → ℕ → Type 0
  Misses fs m = (k : ℕ) → k < m → bytes_eq name (get_or fs k d).name ≡ false

  rest_misses : (f : Field) (fs : List Field) (m : ℕ) → Misses (f ∷ fs) (suc m) → Misses fs m
  rest_misses f fs m misses k below = misses (suc k) (omega (arith, below))

  pub put_past : (x : Plain) (fs : List Field) (vs : List Plain) (m : ℕ) → length vs ≤ m → length vs ≤ length fs → Misses fs m → field_values (put name x (as_variables fs vs)) ≡ vs
  unfolding put as_variables
  put_past x [] [] m past few misses = refl
  put_past x [] (v ∷ vs) m past few misses = below_none (length vs) (omega (arith, few))
  put_past x (f ∷ fs) [] m past few misses = refl
  put_past x (f ∷ fs) (v ∷ vs) zero past few misses = below_none (length vs) (omega (arith, past))
  put_past x (f ∷ fs) (v ∷ vs) (suc m) past few misses =
      let first : bytes_eq name f.name ≡ false = misses 0 (omega arith) in
      rw first (ap (λ xs. v ∷ xs) (put_past x fs vs m (omega (arith, past)) (omega (arith, few)) (rest_misses f fs m misses)))

  pub value_past : (fs : List Field) (vs : List Plain) (m : ℕ) → length vs ≤ m → Misses fs m → value_under name (as_variables fs vs) ≡ void
  unfolding value_under as_variables
  value_past [] vs m past misses = refl
  value_past (f ∷ fs) [] m past misses = refl
  value_past (f ∷ fs) (v ∷ vs) zero past misses = below_none (length vs) (omega (arith, past))
  value_past (f ∷ fs) (v ∷ vs) (suc m) past misses =
      let first : bytes_eq name f.name ≡ false = misses 0 (omega arith) in
      rw first (value_past fs vs m (omega (arith, past)) (rest_misses f fs m misses))

  pub put_here : (x : Plain) (fs : List Field) (vs : List Plain) (i : ℕ) → i < length vs → length vs ≤ length fs → Misses fs i → bytes_eq name (get_or fs i d).name ≡ true
      → field_values (put name x (as_variables fs vs)) ≡ slice_set vs i x
  unfolding put as_variables
  put_here x fs [] i within few misses is = below_none i within
  put_here x [] (v ∷ vs) i within few misses is = below_none (length vs) (omega (arith, few))
  put_here x (f ∷ fs) (v ∷ vs) zero within few misses is = rw is (ap (λ xs. x ∷ xs) (values_again fs vs (omega (arith, few))))
  put_here x (f ∷ fs) (v ∷ vs) (suc i) within few misses is =
      let first : bytes_eq name f.name ≡ false = misses 0 (omega arith) in
      rw first (ap (λ xs. v ∷ xs) (put_here x fs vs i (omega (arith, within)) (omega (arith, few)) (rest_misses f fs i misses) is))

  pub value_here : (fs : List Field) (vs : List Plain) (i : ℕ) (w : Plain) → i < length vs → length vs ≤ length fs → Misses fs i → bytes_eq name (get_or fs i d).name ≡ true
      → value_under name (as_variables fs vs) ≡ get_or vs i w
  unfolding value_under as_variables
  value_here fs [] i w within few misses is = below_none i within
  value_here [] (v ∷ vs) i w within few misses is = below_none (length vs) (omega (arith, few))
  value_here (f ∷ fs) (v ∷ vs) zero w within few misses is = rw is refl
  value_here (f ∷ fs) (v ∷ vs) (suc i) w within few misses is =
      let first : bytes_eq name f.name ≡ false = misses 0 (omega arith) in
      rw first (value_here fs vs i w (omega (arith, within)) (omega (arith, few)) (rest_misses f fs i misses) is)

-- ---- an object's fields as variables

-- those that are written, and none of an object that does not live
pub fields_seen : (g : Setting) (o : Option Object) → as_variables (fields_of g (behaviour_number o)) (unwrap_or (kept.fields_of o) []) ≡ variables_of g o
unfolding as_variables
fields_seen g None = none_named (fields_of g 0)
  where
    none_named : (fs : List Field) → as_variables fs [] ≡ []
    none_named [] = refl
    none_named (f ∷ fs) = refl
fields_seen g (Some o) = refl

-- what is cut to the fields that are written is as before
pub truncated : {F Y : Type 0} (field_of : F → Field) (plain_of : Y → Plain) (fs : List F) (xs cut : List Y) (was : List Plain) → cut ≡ take (length fs) xs → map plain_of xs ≡ was
    → as_variables (map field_of fs) (map plain_of cut) ≡ as_variables (map field_of fs) was
truncated {F = F} {Y = Y} field_of plain_of fs xs cut was is values =
    ap (λ ys. as_variables (map field_of fs) (map plain_of ys)) is
    ∙ ap (as_variables (map field_of fs)) (mapped_front (length fs) xs ∙ ap (λ n. take n (map plain_of xs)) (sym (mapped_length fs)))
    ∙ cut_values (map field_of fs) (map plain_of xs)
    ∙ ap (as_variables (map field_of fs)) values
  where
    mapped_front : (n : ℕ) (ys : List Y) → map plain_of (take n ys) ≡ take n (map plain_of ys)
    mapped_front zero ys = refl
    mapped_front (suc n) [] = refl
    mapped_front (suc n) (y ∷ ys) = ap (λ zs. plain_of y ∷ zs) (mapped_front n ys)

    mapped_length : (gs : List F) → length (map field_of gs) ≡ length gs
    mapped_length [] = refl
    mapped_length (g ∷ gs) = ap suc (mapped_length gs)

with_twice : (n : ℕ) (xs : List Plain) (os : List Object) → with_fields n xs (with_fields n [] os) ≡ with_fields n xs os
unfolding with_fields
with_twice n xs [] = refl
with_twice n xs (o ∷ os) =
    elim (n == o.number) as (λ b. (n == o.number) ≡ b → with_fields n xs (cond b (record o { fields = [] } ∷ os) (o ∷ with_fields n [] os)) ≡ cond b (record o { fields = xs } ∷ os) (o ∷ with_fields n xs os)) [
      | true ↦ λ is. ap (λ b. cond b (record o { fields = xs } ∷ os) (record o { fields = [] } ∷ with_fields n xs os)) is
      | false ↦ λ is. ap (λ b. cond b (record o { fields = xs } ∷ with_fields n [] os) (o ∷ with_fields n xs (with_fields n [] os))) is ∙ ap (λ ys. o ∷ ys) (with_twice n xs os)
    ] refl

-- values that were taken out and given back
pub values_twice : (n : ℕ) (xs : List Plain) (e : EndTables) → on_tables (with_values n xs) (on_tables (with_values n []) e) ≡ on_tables (with_values n xs) e
values_twice n xs e = ap (λ os. on_tables (λ t. record t { objects = os }) e) (with_twice n xs e.tables.objects)

module _ (g : Setting) (n : ℕ) (name : List ℕ) (x : Plain) (e : EndTables) where
  -- the fields are those that are written for the object
  seen_as : (fs : List Field) (b : ℕ) (gained : EndTables) → gained.tables.objects ≡ e.tables.objects → b ≡ behaviour_number (object_numbered n e.tables.objects) → fs ≡ fields_of g b
      → as_variables fs (unwrap_or (kept.fields_of (object_numbered n gained.tables.objects)) []) ≡ variables_of g (object_numbered n e.tables.objects)
  seen_as fs b gained objects behaviour fields =
      (λ i. as_variables ((fields ∙ ap (fields_of g) behaviour) i) (unwrap_or (kept.fields_of (object_numbered n (objects i))) []))
      ∙ fields_seen g (object_numbered n e.tables.objects)

  pub field_set : (rs : List Ref) (fs : List Field) (b : ℕ) (was : Plain) (gained between after : EndTables) → gained ≡ on_tables (gains_all (holder.Object n) rs) e → rs ≡ refs x
      → b ≡ behaviour_number (object_numbered n e.tables.objects) → fs ≡ fields_of g b
      → was ≡ value_under name (as_variables fs (unwrap_or (kept.fields_of (object_numbered n gained.tables.objects)) []))
      → between ≡ on_tables (with_values n (field_values (put name x (as_variables fs (unwrap_or (kept.fields_of (object_numbered n gained.tables.objects)) []))))) gained
      → after ≡ on_tables (lets_go_all g (holder.Object n) (refs was)) between → after ≡ on_tables (sets_field_of g n name x) e
  field_set rs fs b was gained between after gains these behaviour fields told puts here =
      let objects : gained.tables.objects ≡ e.tables.objects = ap (λ z. z.tables.objects) gains ∙ objects_stay (holder.Object n) rs e.tables in
      let vars = seen_as fs b gained objects behaviour fields in
      here
      ∙ (λ i. on_tables (lets_go_all g (holder.Object n) (refs ((told ∙ ap (value_under name) vars) i))) (puts i))
      ∙ (λ i. on_tables (lets_go_all g (holder.Object n) (refs (value_under name (variables_of g (object_numbered n e.tables.objects))))) (on_tables (with_values n (field_values (put name x (vars i)))) (gains i)))
      ∙ ap (λ qs. on_tables (λ t. lets_go_all g (holder.Object n) (refs (value_under name (variables_of g (object_numbered n e.tables.objects))))
      (with_values n (field_values (put name x (variables_of g (object_numbered n e.tables.objects)))) (gains_all (holder.Object n) qs t))) e) these
