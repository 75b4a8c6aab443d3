-- The marks of objects, as flags, and the lowest of them.
use Rattle.std.proofs.Common.{◌≡◌, ◌≢◌, ℕ, ◌<◌, Bool, true, false, cond, List, [], ◌∷◌, length, set, Option, None, Some, refl, sym, ap, ◌∙◌, subst, inl, inr, arith}
use Rattle.std.specs.Prelude.{T, ◌&&◌, nat_eq}
use Rattle.std.specs.Option.{MatchOption}
use Rattle.std.specs.declared.cmp.Ordering.{Ordering}
use Rattle.std.specs.declared.cmp.Ordering.TheVariants.{Less, Equal, Greater}
use Rattle.std.specs.Cmp.{nat_cmp_total, Equal-is, tied_itself}
use Rattle.std.specs.Ordering.{nat_cmp, is_lt, is_eq, eq_by_cmp}
use Rattle.std.specs.FinMap.{find, is_sorted, nat_cmp-IsAntisymmetric}
use Rattle.std.specs.FinMap.Entries.{below_all}
use Rattle.std.proofs.lemmas.Bool.{cases_lt}
use Rattle.std.proofs.lemmas.List.{get_or-set_same, get_or-set_other}
use borrow.Author.Tests.{lt-ltb}
use Rattle.birth_index.specs.Bits.{has}
use Rattle.birth_index.specs.Members.{IsFirst, NoneFrom}
use Rattle.table_model.specs.Objects.{Object, lowest}
use Rattle.table_model.proofs.RowLaws.{find_below}
use Rattle.object_store.specs.Rows.{is_marked}
use Rattle.object_store.proofs.Living.{both}

-- numbers that tie are one
pub one_number : (q k : ℕ) → eq_by_cmp nat_cmp q k ≡ true → q ≡ k
one_number q k is = nat_cmp-IsAntisymmetric q k ((Equal-is _).0 is)

-- a number ties with itself
pub with_itself : (k : ℕ) → eq_by_cmp nat_cmp k k ≡ true
with_itself k = ap is_eq (tied_itself nat_cmp_total k)

-- numbers that do not tie are two
two_numbers : (q k : ℕ) → eq_by_cmp nat_cmp q k ≡ false → q ≢ k
two_numbers q k other same = let bad : true ≡ false = sym (with_itself q) ∙ ap (eq_by_cmp nat_cmp q) same ∙ other in cc

-- the flags after one of them is set
pub flag_set : (marks : List Bool) (k : ℕ) (b : Bool) (q : ℕ) → k < length marks → has (set marks k b) q ≡ cond (eq_by_cmp nat_cmp q k) b (has marks q)
flag_set marks k b q within =
    elim (eq_by_cmp nat_cmp q k) as (λ t. eq_by_cmp nat_cmp q k ≡ t → has (set marks k b) q ≡ cond t b (has marks q)) [
      | true ↦ λ is. ap (has (set marks k b)) (one_number q k is) ∙ get_or-set_same marks k b false within
      | false ↦ λ other. get_or-set_other marks k q b false (two_numbers q k other)
    ] refl

first : (a b : Bool) → T (a && b) → T a
first true b p = tt
first false b p = p

second : (a b : Bool) → T (a && b) → T b
second true b p = p
second false b p = absurd p

less : (o : Ordering) → T (is_lt o) → o ≡ Less
less Less h = refl
less Equal h = absurd h
less Greater h = absurd h

module _ {V : Type 0} where
  -- the mark of what is found after a change
  pub marked_either : (t : Bool) (w o : Option (Object V)) → is_marked (cond t w o) ≡ cond t (is_marked w) (is_marked o)
  marked_either true w o = refl
  marked_either false w o = refl

  -- what is below a number that is below all rows is below them too
  below_more : (n m : ℕ) (rows : List (ℕ × Object V)) → nat_cmp n m ≡ Less → T (below_all nat_cmp m rows) → T (below_all nat_cmp n rows)
  below_more n m [] is h = tt
  below_more n m (row ∷ rows) is h = both _ _ (subst (λ r. T (is_lt r)) (sym (nat_cmp_total.trans n m row.0 is (less _ (first _ _ h)))) tt) (below_more n m rows is (second _ _ h))

  -- a test tells which rows are marked
  abbrev pub Tells : (ℕ → Bool) → List (ℕ × Object V) → Type 0
  Tells p rows = (k : ℕ) → p k ≡ is_marked (find nat_cmp k rows)

  module _ (p : ℕ → Bool) (row : ℕ × Object V) (rows : List (ℕ × Object V)) (rises : T (is_sorted nat_cmp (row ∷ rows))) (tells : Tells p (row ∷ rows)) where
    -- it tells whether the first row is
    tells_first : p row.0 ≡ row.1.may_go
    tells_first = tells row.0 ∙ ap (λ t. is_marked (cond t (Some row.1) (find nat_cmp row.0 rows))) (with_itself row.0)

    -- and that none below the first row is
    tells_below : (n : ℕ) → n < row.0 → p n ≡ false
    tells_below n below =
        let is : nat_cmp n row.0 ≡ Less = ap (λ b. cond b Less (cond (nat_eq n row.0) Equal Greater)) (lt-ltb n row.0 below) in
        tells n ∙ ap is_marked (find_below nat_cmp_total n (row ∷ rows) (both _ _ (subst (λ r. T (is_lt r)) (sym is) tt) (below_more n row.0 rows is (first _ _ rises))))

    -- where the first row is not marked, it tells which of the others are
    tells_rest : row.1.may_go ≡ false → Tells p rows
    tells_rest unmarked k =
        tells k
        ∙ elim (eq_by_cmp nat_cmp k row.0) as (λ t. eq_by_cmp nat_cmp k row.0 ≡ t → is_marked (cond t (Some row.1) (find nat_cmp k rows)) ≡ is_marked (find nat_cmp k rows)) [
          | true ↦ λ is. unmarked ∙ sym (ap is_marked (ap (λ k. find nat_cmp k rows) (one_number k row.0 is) ∙ find_below nat_cmp_total row.0 rows (first _ _ rises)))
          | false ↦ λ _. refl
        ] refl

    -- a marked first row is the first of the marks
    is_first_row : row.1.may_go ≡ true → (n : ℕ) → IsFirst p 0 n → row.0 ≡ n
    is_first_row marked n is =
        elim (cases_lt row.0 n) [
          | inl before ↦ let bad : true ≡ false = sym marked ∙ sym tells_first ∙ is.first row.0 (omega arith) before in cc
          | inr behind ↦ elim (cases_lt n row.0) [
            | inl below ↦ let bad : true ≡ false = sym is.member ∙ tells_below n below in cc
            | inr there ↦ omega (arith, behind, there)
          ]
        ]

  -- without marks there is no lowest marked object
  lowest_none : (p : ℕ → Bool) (rows : List (ℕ × Object V)) → T (is_sorted nat_cmp rows) → Tells p rows → NoneFrom p 0 → lowest rows ≡ None
  lowest_none p [] rises tells none = refl
  lowest_none p (row ∷ rows) rises tells none =
      let unmarked : row.1.may_go ≡ false = sym (tells_first p row rows rises tells) ∙ none row.0 (omega arith) in
      ap (λ b. cond b (Some row.0) (lowest rows)) unmarked ∙ lowest_none p rows (second _ _ rises) (tells_rest p row rows rises tells unmarked) none

  -- and the first of them is its number
  lowest_some : (p : ℕ → Bool) (n : ℕ) (rows : List (ℕ × Object V)) → T (is_sorted nat_cmp rows) → Tells p rows → IsFirst p 0 n → lowest rows ≡ Some n
  lowest_some p n [] rises tells is = let bad : false ≡ true = sym (tells n) ∙ is.member in cc
  lowest_some p n (row ∷ rows) rises tells is =
      elim (row.1.may_go) as (λ b. row.1.may_go ≡ b → cond b (Some row.0) (lowest rows) ≡ Some n) [
        | true ↦ λ marked. ap Some (is_first_row p row rows rises tells marked n is)
        | false ↦ λ unmarked. lowest_some p n rows (second _ _ rises) (tells_rest p row rows rises tells unmarked) is
      ] refl

  -- the first of the marks is the lowest marked object
  pub lowest_told : (p : ℕ → Bool) (rows : List (ℕ × Object V)) → T (is_sorted nat_cmp rows) → Tells p rows → (o : Option ℕ) → MatchOption o (NoneFrom p 0) (λ n. IsFirst p 0 n) → lowest rows ≡ o
  lowest_told p rows rises tells None none = lowest_none p rows rises tells none
  lowest_told p rows rises tells (Some n) is = lowest_some p n rows rises tells is
