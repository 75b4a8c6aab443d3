-- The numbers of objects, as they are printed in identities.
use Rattle.std.proofs.Common.{◌≡◌, ℕ, ◌≤◌, ◌<◌, ◌^◌, true, false, nat_lt, List, ◌++◌, Option, None, Result, Ok, Err, refl, sym, ap, ◌∙◌, arith}
use borrow.Author.Tests.{ltb-true}
use Rattle.std.proofs.lemmas.Bool.Decides.{nat_tests}
use Rattle.std.proofs.lemmas.List.{append_cancel_left}
use Rattle.std.proofs.lemmas.Fmt.{parse-decimal, decimal_injective}
use Rattle.std.specs.Fmt.{decimal}
use Rattle.std.specs.Str.Parse.{ParsesUnsigned}

module _ {E : Type 0} (bs : List ℕ) (r : Result ℕ E) (parsed : ParsesUnsigned 32 10 bs r) where
  -- what is not read as a number prints none
  pub no_number : (e : E) → r ≡ Err e → (n : ℕ) → n < 2 ^ 32 → bs ≡ decimal n → ⊥
  no_number e failed n few is = let read : r ≡ Ok n = parse-decimal 32 n bs r few (omega arith) is parsed in cc

  -- what is read as a number that is printed otherwise prints none either
  pub other_number : (m : ℕ) → r ≡ Ok m → (bs ≡ decimal m → ⊥) → (n : ℕ) → n < 2 ^ 32 → bs ≡ decimal n → ⊥
  other_number m read other n few is =
      let again : r ≡ Ok n = parse-decimal 32 n bs r few (omega arith) is parsed in
      let same : m ≡ n = cc in
      other (is ∙ ap decimal (sym same))

-- one identity has one number
pub one_number : (prefix oid : List ℕ) (m n : ℕ) → m < 2 ^ 32 → n < 2 ^ 32 → oid ≡ prefix ++ decimal m → oid ≡ prefix ++ decimal n → m ≡ n
one_number prefix oid m n few less is too = decimal_injective m n (omega arith) (omega arith) (append_cancel_left prefix (decimal m) (decimal n) (sym is ∙ too))

-- where one number of an identity has nothing, no number of it has
pub no_living : {X : Type 0} (found : ℕ → Option X) (prefix oid : List ℕ) (made m : ℕ) → made < 2 ^ 32 → m < 2 ^ 32 → ((n : ℕ) → made < n → found n ≡ None)
    → oid ≡ prefix ++ decimal m → found m ≡ None → (n : ℕ) → oid ≡ prefix ++ decimal n → found n ≡ None
no_living found prefix oid made m few less given is none n too =
    elim (nat_lt made n) as (λ b. nat_lt made n ≡ b → found n ≡ None) [
      | true ↦ λ above. given n (ltb-true made n above)
      | false ↦ λ below. ap found (one_number prefix oid n m (at_most made n few below) less too is) ∙ none
    ] refl
  where
    at_most : (made n : ℕ) → made < 2 ^ 32 → nat_lt made n ≡ false → n < 2 ^ 32
    at_most made n few e = grind (arith, nat_tests)

-- where one number of an identity is not above a certain one, no number of it is that has something
pub no_later : {X : Type 0} (found : ℕ → Option X) (prefix oid : List ℕ) (made first m : ℕ) → made < 2 ^ 32 → m < 2 ^ 32 → ((n : ℕ) → made < n → found n ≡ None)
    → oid ≡ prefix ++ decimal m → m ≤ first → (n : ℕ) → first < n → oid ≡ prefix ++ decimal n → found n ≡ None
no_later found prefix oid made first m few less given is early n late too =
    elim (nat_lt made n) as (λ b. nat_lt made n ≡ b → found n ≡ None) [
      | true ↦ λ above. given n (ltb-true made n above)
      | false ↦ λ below. let same = one_number prefix oid n m (at_most made n few below) less too is in absurd (omega (arith, same, early, late))
    ] refl
  where
    at_most : (made n : ℕ) → made < 2 ^ 32 → nat_lt made n ≡ false → n < 2 ^ 32
    at_most made n few e = grind (arith, nat_tests)

-- and none above a certain one
pub none_above : {X : Type 0} (found : ℕ → Option X) (made : ℕ) → made < 2 ^ 32 → ((n : ℕ) → made < n → found n ≡ None) → (n : ℕ) → 2 ^ 32 ≤ n → found n ≡ None
none_above found made few given n more = given n (omega arith)
