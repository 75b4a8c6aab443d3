-- The objects that rows stand for, beside the rows.
use Rattle.std.proofs.Common.{◌≡◌, ℕ, suc, ◌+◌, ◌<◌, ◌≤◌, ◌^◌, Bool, true, false, cond, not, ◌&&◌, ◌==◌, if◌then◌else◌, List, [], ◌∷◌, ◌++◌, map, Option, None, Some, IsSome, IfSome, IfNone, option_map, refl, sym, ap, ◌∙◌, subst, arith}
use Rattle.std.proofs.lemmas.Bool.{true≢false}
use Rattle.std.specs.Prelude.{T, nat_lt, nat_eq}
use borrow.Author.Tests.{ltb-true}
use Rattle.std.specs.declared.cmp.Ordering.{Ordering}
use Rattle.std.specs.declared.cmp.Ordering.TheVariants.{Less, Equal, Greater}
use Rattle.std.proofs.lemmas.Bool.Decides.{nat_tests}
use Rattle.std.specs.Cmp.{nat_cmp_total, Equal-is, tied_itself, unsigned_ties}
use Rattle.std.specs.Cmp.Lexicographic.{same_text, nat_list_eq_equiv}
use Rattle.std.specs.FinMap.{find, put, is_sorted, nat_cmp-IsAntisymmetric}
use Rattle.std.specs.FinMap.Entries.{by_order, below_all}
use Rattle.std.specs.Fmt.{decimal}
use Rattle.std.specs.List as list
use Rattle.std.specs.Option.{is_some}
use Rattle.std.specs.Ordering.{nat_cmp, eq_by_cmp, is_eq, is_lt}
use Rattle.std.specs.Str.{bytes_eq}
use Rattle.uno_model.specs.Values.{Plain}
use Rattle.table_model.specs.Objects as model
use Rattle.table_model.specs.Rows.{without}
use Rattle.table_model.proofs.RowLaws.{find_below, first_found, rest_found}
use Rattle.bridge_model.specs.Objects.{object_numbered, with_fields, without_object}
use Rattle.bridge_model.specs.Sides.{Object}
use Rattle.bridge_objects.specs.Marks.{AreMarked}
use Rattle.bridge_objects.specs.Objects.{object_of, objects_of}
use Rattle.bridge_objects.proofs.Numbers.{one_number}

first : (a b : Bool) → T (a && b) → T a
first true b p = tt
first false b p = p

second : (a b : Bool) → T (a && b) → T b
second true b p = p
second false b p = absurd p

both : (a b : Bool) → T a → T b → T (a && b)
both true b p q = q
both false b p q = p

-- ---- options

-- what is there is one
pub the_one : {X : Type 0} (o : Option X) → IsSome o → (x : X) × (o ≡ Some x)
the_one (Some x) h = (x, refl)
the_one None h = let bad : false ≡ true = h in cc

pub some_one : {X : Type 0} (o : Option X) → is_some o ≡ true → (x : X) × (o ≡ Some x)
some_one (Some x) h = (x, refl)
some_one None h = absurd (true≢false (sym h))

pub no_one : {X : Type 0} (o : Option X) → is_some o ≡ false → o ≡ None
no_one (Some x) h = absurd (true≢false h)
no_one None h = refl

pub at_none : {A P : Type 0} (o : Option A) → P → IfNone o P
at_none None p = p
at_none (Some x) p = tt

pub if_some : {A : Type 0} {P Q : A → Type 0} (o : Option A) → ((x : A) → P x → Q x) → IfSome o P → IfSome o Q
if_some None f p = p
if_some (Some x) f p = f x p

pub if_none : {A : Type 0} {P Q : Type 0} (o : Option A) → (P → Q) → IfNone o P → IfNone o Q
if_none None f p = f p
if_none (Some x) f p = p

pub either : {A : Type 0} {P : A → Type 0} {Q R : Type 0} (o : Option A) → ((x : A) → P x → R) → (Q → R) → IfSome o P → IfNone o Q → R
either None f g p q = g q
either (Some x) f g p q = f x p

mapped_twice : {A B C : Type 0} (f : A → B) (g : B → C) (o : Option A) → option_map (λ x. g (f x)) o ≡ option_map g (option_map f o)
mapped_twice f g None = refl
mapped_twice f g (Some x) = refl

-- ---- what is found

is_less : (o : Ordering) → T (is_lt o) → o ≡ Less
is_less Less h = refl
is_less Equal h = absurd h
is_less Greater h = absurd h

less_of : (n m : ℕ) → nat_cmp n m ≡ Less → n < m
less_of n m is = ltb-true n m (lt_of (nat_lt n m) (nat_eq n m) is)
  where
    lt_of : (a b : Bool) → cond a Less (cond b Equal Greater) ≡ Less → a ≡ true
    lt_of true b e = refl
    lt_of false true e = cc
    lt_of false false e = cc

is_same : (n m : ℕ) → nat_cmp n m ≡ Equal → n ≡ m
is_same n m e = nat_cmp-IsAntisymmetric n m e

tied : (n m : ℕ) → nat_cmp n m ≡ Equal → (n == m) ≡ true
tied n m e = unsigned_ties n m ∙ ap is_eq e

untied : (n m : ℕ) (o : Ordering) → nat_cmp n m ≡ o → is_eq o ≡ false → (n == m) ≡ false
untied n m o e other = unsigned_ties n m ∙ ap is_eq e ∙ other

nothing : {X : Type 0} (x : X) → None ≡ Some x → ⊥
nothing x e = cc

module _ {X : Type 0} (n : ℕ) (row : ℕ × X) (rows : List (ℕ × X)) where
  -- what is not found is not found behind the first row
  none_behind : find nat_cmp n (row ∷ rows) ≡ None → find nat_cmp n rows ≡ None
  none_behind none =
      elim (eq_by_cmp nat_cmp n row.0) as (λ b. cond b (Some row.1) (find nat_cmp n rows) ≡ None → find nat_cmp n rows ≡ None) [
        | true ↦ λ e. absurd (nothing row.1 (sym e))
        | false ↦ λ e. e
      ] none

  none_first : find nat_cmp n (row ∷ rows) ≡ None → eq_by_cmp nat_cmp n row.0 ≡ false
  none_first none =
      elim (eq_by_cmp nat_cmp n row.0) as (λ b. cond b (Some row.1) (find nat_cmp n rows) ≡ None → b ≡ false) [
        | true ↦ λ e. absurd (nothing row.1 (sym e))
        | false ↦ λ e. refl
      ] none

  -- what is found in another row than the first is found behind it
  some_behind : (x : X) → eq_by_cmp nat_cmp n row.0 ≡ false → find nat_cmp n (row ∷ rows) ≡ Some x → find nat_cmp n rows ≡ Some x
  some_behind x other found = ap (λ b. cond b (Some row.1) (find nat_cmp n rows)) (sym other) ∙ found

  some_first : (x : X) → eq_by_cmp nat_cmp n row.0 ≡ true → find nat_cmp n (row ∷ rows) ≡ Some x → row.1 ≡ x
  some_first x same found =
      let here : Some row.1 ≡ Some x = ap (λ b. cond b (Some row.1) (find nat_cmp n rows)) (sym same) ∙ found in
      cc

below_more : {X : Type 0} (n m : ℕ) (rows : List (ℕ × X)) → nat_cmp n m ≡ Less → T (below_all nat_cmp m rows) → T (below_all nat_cmp n rows)
below_more n m [] less h = tt
below_more n m (row ∷ rows) less h =
    both (is_lt (nat_cmp n row.0)) (below_all nat_cmp n rows)
    (subst (λ o. T (is_lt o)) (sym (nat_cmp_total.trans n m row.0 less (is_less (nat_cmp m row.0) (first _ _ h)))) tt)
    (below_more n m rows less (second _ _ h))

module _ {V : Type 0} (plain : V → Plain) where
  -- what is told of the object of a number is told of its row
  pub numbered_as : {A : Type 0} (f : Object → A) (g : model.Object V → A) → ((row : ℕ × model.Object V) → f (object_of plain row) ≡ g row.1)
      → (n : ℕ) (rows : List (ℕ × model.Object V)) → option_map f (object_numbered n (objects_of plain rows)) ≡ option_map g (find nat_cmp n rows)
  unfolding object_numbered
  numbered_as f g same n [] = refl
  numbered_as f g same n (row ∷ rows) =
      ap (λ b. option_map f (cond b (Some (object_of plain row)) (object_numbered n (objects_of plain rows)))) (unsigned_ties n row.0)
      ∙ elim (eq_by_cmp nat_cmp n row.0) as (λ b. option_map f (cond b (Some (object_of plain row)) (object_numbered n (objects_of plain rows))) ≡ option_map g (cond b (Some row.1) (find nat_cmp n rows))) [
        | true ↦ ap Some (same row)
        | false ↦ numbered_as f g same n rows
      ]

  none_mapped : {A B : Type 0} (f : A → B) (o : Option A) → option_map f o ≡ None → o ≡ None
  none_mapped f None e = refl
  none_mapped f (Some x) e = absurd (nothing (f x) (sym e))

  -- an object that has no row is not there
  pub numbered_none : (n : ℕ) (rows : List (ℕ × model.Object V)) → find nat_cmp n rows ≡ None → object_numbered n (objects_of plain rows) ≡ None
  numbered_none n rows none =
      none_mapped (λ o. o.behaviour) _ (numbered_as (λ o. o.behaviour) (λ o. o.behaviour) (λ row. refl) n rows ∙ ap (option_map (λ o. o.behaviour)) none)

  -- the fields of an object are those of its row
  pub numbered_fields : (n : ℕ) (rows : List (ℕ × model.Object V)) (found : Option (List V)) → option_map (λ o. o.fields) (find nat_cmp n rows) ≡ found
      → option_map (λ o. o.fields) (object_numbered n (objects_of plain rows)) ≡ option_map (map plain) found
  numbered_fields n rows found is =
      numbered_as (λ o. o.fields) (λ o. map plain o.fields) (λ row. refl) n rows ∙ mapped_twice (λ o. o.fields) (map plain) (find nat_cmp n rows) ∙ ap (option_map (map plain)) is

  -- ---- an object with other fields

  -- other fields in the row of an object are other fields of it
  pub fields_put : (n : ℕ) (was now : model.Object V) (rows : List (ℕ × model.Object V)) → T (is_sorted nat_cmp rows) → find nat_cmp n rows ≡ Some was → now.behaviour ≡ was.behaviour
      → objects_of plain (put nat_cmp n now rows) ≡ with_fields n (map plain now.fields) (objects_of plain rows)
  unfolding with_fields
  fields_put n was now [] rises found same = absurd (nothing was found)
  fields_put n was now (row ∷ rows) rises found same =
      elim (nat_cmp n row.0) as (λ o. nat_cmp n row.0 ≡ o
      → objects_of plain (by_order o ((n, now) ∷ row ∷ rows) ((row.0, now) ∷ rows) (row ∷ put nat_cmp n now rows)) ≡ with_fields n (map plain now.fields) (objects_of plain (row ∷ rows))) [
        | Less ↦ λ is. absurd (nothing was (sym (not_below is) ∙ found))
        | Equal ↦ λ is.
            let alike : row.1 ≡ was = some_first n row rows was (ap is_eq is) found in
            (λ i. record { number = row.0; behaviour = (same ∙ sym (ap (λ o. o.behaviour) alike)) i; fields = map plain now.fields } ∷ objects_of plain rows)
            ∙ ap (λ b. if b then record (object_of plain row) { fields = map plain now.fields } ∷ objects_of plain rows else object_of plain row ∷ with_fields n (map plain now.fields) (objects_of plain rows)) (sym (tied n row.0 is))
        | Greater ↦ λ is.
            ap (λ os. object_of plain row ∷ os) (fields_put n was now rows (second _ _ rises) (some_behind n row rows was (ap is_eq is) found) same)
            ∙ ap (λ b. if b then record (object_of plain row) { fields = map plain now.fields } ∷ objects_of plain rows else object_of plain row ∷ with_fields n (map plain now.fields) (objects_of plain rows)) (sym (untied n row.0 Greater is refl))
      ] refl
    where
      not_below : nat_cmp n row.0 ≡ Less → find nat_cmp n (row ∷ rows) ≡ None
      not_below is =
          find_below nat_cmp_total n (row ∷ rows)
          (both (is_lt (nat_cmp n row.0)) (below_all nat_cmp n rows) (subst (λ o. T (is_lt o)) (sym is) tt) (below_more n row.0 rows is (first _ _ rises)))

  -- the fields that it has change nothing
  pub same_fields : (n : ℕ) (was : model.Object V) (rows : List (ℕ × model.Object V)) → find nat_cmp n rows ≡ Some was → with_fields n (map plain was.fields) (objects_of plain rows) ≡ objects_of plain rows
  unfolding with_fields
  same_fields n was [] found = refl
  same_fields n was (row ∷ rows) found =
      ap (λ b. if b then record (object_of plain row) { fields = map plain was.fields } ∷ objects_of plain rows else object_of plain row ∷ with_fields n (map plain was.fields) (objects_of plain rows)) (unsigned_ties n row.0)
      ∙ elim (eq_by_cmp nat_cmp n row.0) as (λ b. eq_by_cmp nat_cmp n row.0 ≡ b
      → (if b then record (object_of plain row) { fields = map plain was.fields } ∷ objects_of plain rows else object_of plain row ∷ with_fields n (map plain was.fields) (objects_of plain rows)) ≡ object_of plain row ∷ objects_of plain rows) [
        | true ↦ λ is. (λ i. record { number = row.0; behaviour = row.1.behaviour; fields = map plain (sym (some_first n row rows was is found) i).fields } ∷ objects_of plain rows)
        | false ↦ λ is. ap (λ os. object_of plain row ∷ os) (same_fields n was rows (some_behind n row rows was is found))
      ] refl

  -- and fields of none neither
  pub no_fields : (n : ℕ) (fields : List Plain) (rows : List (ℕ × model.Object V)) → find nat_cmp n rows ≡ None → with_fields n fields (objects_of plain rows) ≡ objects_of plain rows
  unfolding with_fields
  no_fields n fields [] none = refl
  no_fields n fields (row ∷ rows) none =
      ap (λ b. if b then record (object_of plain row) { fields = fields } ∷ objects_of plain rows else object_of plain row ∷ with_fields n fields (objects_of plain rows)) (unsigned_ties n row.0 ∙ none_first n row rows none)
      ∙ ap (λ os. object_of plain row ∷ os) (no_fields n fields rows (none_behind n row rows none))

  -- a mark is none of an object's fields
  pub marked_same : (n : ℕ) (was : model.Object V) (may_go : Bool) (rows : List (ℕ × model.Object V)) → T (is_sorted nat_cmp rows) → find nat_cmp n rows ≡ Some was
      → objects_of plain (put nat_cmp n (record was { may_go = may_go }) rows) ≡ objects_of plain rows
  marked_same n was may_go rows rises found = fields_put n was (record was { may_go = may_go }) rows rises found refl ∙ same_fields n was rows found

  -- ---- an object that comes, and one that goes

  -- the next object comes last
  pub put_last : (made : ℕ) (now : model.Object V) (rows : List (ℕ × model.Object V)) → ((q : ℕ) → made < q → find nat_cmp q rows ≡ None)
      → objects_of plain (put nat_cmp (made + 1) now rows) ≡ objects_of plain rows ++ record { number = suc made; behaviour = now.behaviour; fields = map plain now.fields } ∷ []
  put_last made now [] given = let same : made + 1 ≡ suc made = omega arith in (λ i. record { number = same i; behaviour = now.behaviour; fields = map plain now.fields } ∷ [])
  put_last made now (row ∷ rows) given =
      elim (nat_cmp (made + 1) row.0) as (λ o. nat_cmp (made + 1) row.0 ≡ o
      → objects_of plain (by_order o ((made + 1, now) ∷ row ∷ rows) ((row.0, now) ∷ rows) (row ∷ put nat_cmp (made + 1) now rows))
      ≡ object_of plain row ∷ (objects_of plain rows ++ record { number = suc made; behaviour = now.behaviour; fields = map plain now.fields } ∷ [])) [
        | Less ↦ λ is. let less = less_of (made + 1) row.0 is in absurd (here row.0 refl (omega (arith, less)))
        | Equal ↦ λ is. let same = is_same (made + 1) row.0 is in absurd (here row.0 refl (omega (arith, same)))
        | Greater ↦ λ is. ap (λ os. object_of plain row ∷ os) (put_last made now rows (λ q above. none_behind q row rows (given q above)))
      ] refl
    where
      here : (q : ℕ) → q ≡ row.0 → made < q → ⊥
      here q is above = nothing row.1 (sym (given q above) ∙ ap (λ n. find nat_cmp n (row ∷ rows)) is ∙ ap (λ o. cond (is_eq o) (Some row.1) (find nat_cmp row.0 rows)) (tied_itself nat_cmp_total row.0))

  -- an object that goes takes its row
  pub without_row : (n : ℕ) (rows : List (ℕ × model.Object V)) → objects_of plain (without nat_cmp n rows) ≡ without_object n (objects_of plain rows)
  unfolding without_object
  without_row n [] = refl
  without_row n (row ∷ rows) =
      elim (eq_by_cmp nat_cmp n row.0) as (λ b. objects_of plain (cond (not b) (row ∷ without nat_cmp n rows) (without nat_cmp n rows)) ≡ cond (not b) (object_of plain row ∷ without_object n (objects_of plain rows)) (without_object n (objects_of plain rows))) [
        | true ↦ without_row n rows
        | false ↦ ap (λ os. object_of plain row ∷ os) (without_row n rows)
      ]
      ∙ ap (λ b. cond (not b) (object_of plain row ∷ without_object n (objects_of plain rows)) (without_object n (objects_of plain rows))) (sym (unsigned_ties n row.0))

  -- what is not there does not go, and what came last does
  pub without_last : (n : ℕ) (x : Object) (rows : List (ℕ × model.Object V)) → n ≡ x.number → find nat_cmp n rows ≡ None → without_object n (objects_of plain rows ++ x ∷ []) ≡ objects_of plain rows
  unfolding without_object
  without_last n x [] is none = ap (λ b. cond (not b) (x ∷ []) []) (unsigned_ties n x.number ∙ ap (λ m. is_eq (nat_cmp n m)) (sym is) ∙ ap is_eq (tied_itself nat_cmp_total n))
  without_last n x (row ∷ rows) is none =
      ap (λ b. cond (not b) (object_of plain row ∷ without_object n (objects_of plain rows ++ x ∷ [])) (without_object n (objects_of plain rows ++ x ∷ []))) (unsigned_ties n row.0 ∙ none_first n row rows none)
      ∙ ap (λ os. object_of plain row ∷ os) (without_last n x rows is (none_behind n row rows none))

  pub without_none : (n : ℕ) (rows : List (ℕ × model.Object V)) → find nat_cmp n rows ≡ None → without_object n (objects_of plain rows) ≡ objects_of plain rows
  unfolding without_object
  without_none n [] none = refl
  without_none n (row ∷ rows) none =
      ap (λ b. cond (not b) (object_of plain row ∷ without_object n (objects_of plain rows)) (without_object n (objects_of plain rows))) (unsigned_ties n row.0 ∙ none_first n row rows none)
      ∙ ap (λ os. object_of plain row ∷ os) (without_none n rows (none_behind n row rows none))

  -- ---- the lowest that is marked

  pub lowest_marked : (free : ℕ → Bool) (rows : List (ℕ × model.Object V)) → T (is_sorted nat_cmp rows) → AreMarked free rows
      → model.lowest rows ≡ option_map (λ o. o.number) (list.find (λ o. free o.number) (objects_of plain rows))
  lowest_marked free [] rises marked = refl
  lowest_marked free (row ∷ rows) rises marked =
      let right : row.1.may_go ≡ free row.0 = first_found nat_cmp_total (λ n o. o.may_go ≡ free n) row rows marked in
      let rest = lowest_marked free rows (second _ _ rises) (rest_found nat_cmp_total (λ n o. o.may_go ≡ free n) row rows marked nat_cmp-IsAntisymmetric rises) in
      ap (λ b. cond b (Some row.0) (model.lowest rows)) right
      ∙ elim (free row.0) as (λ b. cond b (Some row.0) (model.lowest rows) ≡ option_map (λ o. o.number) (cond b (Some (object_of plain row)) (list.find (λ o. free o.number) (objects_of plain rows)))) [
        | true ↦ refl
        | false ↦ rest
      ]

-- ---- the object of an identity

module _ {V : Type 0} (plain : V → Plain) (prefix oid : List ℕ) where
  found_first : (row : ℕ × model.Object V) (rows : List (ℕ × model.Object V)) → find nat_cmp row.0 (row ∷ rows) ≡ Some row.1
  found_first row rows = ap (λ o. cond (is_eq o) (Some row.1) (find nat_cmp row.0 rows)) (tied_itself nat_cmp_total row.0)

  below : (n : ℕ) (rows : List (ℕ × model.Object V)) (x : model.Object V) → ((q : ℕ) → 2 ^ 32 ≤ q → find nat_cmp q rows ≡ None) → find nat_cmp n rows ≡ Some x → n < 2 ^ 32
  below n rows x few found =
      elim (nat_lt n (2 ^ 32)) as (λ b. nat_lt n (2 ^ 32) ≡ b → n < 2 ^ 32) [
        | true ↦ λ less. ltb-true n (2 ^ 32) less
        | false ↦ λ more. absurd (nothing x (sym (few n (at_least n (2 ^ 32) more)) ∙ found))
      ] refl
    where
      at_least : (n m : ℕ) → nat_lt n m ≡ false → m ≤ n
      at_least n m e = grind (arith, nat_tests)

  -- is the one of its number
  pub named_row : (n : ℕ) (was : model.Object V) → oid ≡ prefix ++ decimal n → (rows : List (ℕ × model.Object V)) → ((q : ℕ) → 2 ^ 32 ≤ q → find nat_cmp q rows ≡ None) → find nat_cmp n rows ≡ Some was
      → option_map (λ o. o.number) (list.find (λ o. bytes_eq oid (prefix ++ decimal o.number)) (objects_of plain rows)) ≡ Some n
  named_row n was is [] few found = absurd (nothing was found)
  named_row n was is (row ∷ rows) few found =
      elim (bytes_eq oid (prefix ++ decimal row.0)) as (λ b. bytes_eq oid (prefix ++ decimal row.0) ≡ b
      → option_map (λ o. o.number) (cond b (Some (object_of plain row)) (list.find (λ o. bytes_eq oid (prefix ++ decimal o.number)) (objects_of plain rows))) ≡ Some n) [
        | true ↦ λ same.
            ap Some (one_number prefix oid row.0 n (below row.0 (row ∷ rows) row.1 few (found_first row rows)) (below n (row ∷ rows) was few found) (same_text oid (prefix ++ decimal row.0) (sym same)) is)
        | false ↦ λ other. named_row n was is rows (λ q more. none_behind q row rows (few q more)) (some_behind n row rows was (elsewhere other) found)
      ] refl
    where
      elsewhere : bytes_eq oid (prefix ++ decimal row.0) ≡ false → eq_by_cmp nat_cmp n row.0 ≡ false
      elsewhere other =
          elim (eq_by_cmp nat_cmp n row.0) as (λ b. eq_by_cmp nat_cmp n row.0 ≡ b → b ≡ false) [
            | true ↦ λ same.
                let here : n ≡ row.0 = is_same n row.0 ((Equal-is _).0 same) in
                absurd (true≢false (sym (nat_list_eq_equiv.refl oid) ∙ ap (bytes_eq oid) (is ∙ ap (λ m. prefix ++ decimal m) here) ∙ other))
            | false ↦ λ _. refl
          ] refl

  -- and none has it, where none of its numbers lives
  pub named_none : (rows : List (ℕ × model.Object V)) → ((n : ℕ) → oid ≡ prefix ++ decimal n → find nat_cmp n rows ≡ None)
      → option_map (λ o. o.number) (list.find (λ o. bytes_eq oid (prefix ++ decimal o.number)) (objects_of plain rows)) ≡ None
  named_none [] none = refl
  named_none (row ∷ rows) none =
      elim (bytes_eq oid (prefix ++ decimal row.0)) as (λ b. bytes_eq oid (prefix ++ decimal row.0) ≡ b
      → option_map (λ o. o.number) (cond b (Some (object_of plain row)) (list.find (λ o. bytes_eq oid (prefix ++ decimal o.number)) (objects_of plain rows))) ≡ None) [
        | true ↦ λ same. absurd (nothing row.1 (sym (none row.0 (same_text oid (prefix ++ decimal row.0) (sym same))) ∙ found_first row rows))
        | false ↦ λ _. named_none rows (λ n is. none_behind n row rows (none n is))
      ] refl
