-- Numbers of pairs and pairs of numbers agree, before and after one of them changes.
use Rattle.std.proofs.Common.{◌≡◌, ℕ, ◌+◌, Bool, true, false, cond, Option, None, Some, nat_eq, refl, sym, ap, ◌∙◌, subst, arith}
use Rattle.std.specs.Cmp.{Equal-is, tied_itself}
use Rattle.std.specs.Ordering.{is_eq}
use borrow.Author.Tests.{eqb-true, eq-eqb}
use Rattle.table_model.specs.Pair.{Pair, is_pair}
use Rattle.table_model.proofs.PairLaws.{pair_order, same_pair}
use Rattle.proxy_table.specs.Releases.{AreOne}

either : {P : Type 0} (b : Bool) → (b ≡ true → P) → (b ≡ false → P) → P
either true f g = f refl
either false f g = g refl

chosen : {X : Type 0} (b : Bool) (x y : X) → b ≡ true → cond b x y ≡ x
chosen b x y is = ap (λ b. cond b x y) is

passed : {X : Type 0} (b : Bool) (x y : X) → b ≡ false → cond b x y ≡ y
passed b x y is = ap (λ b. cond b x y) is

pub within : {X : Type 0} (x y : X) → Some x ≡ Some y → x ≡ y
within x y e = cc

pub apart : {X : Type 0} {P : Type 0} (x : X) → None ≡ Some x → P
apart x e = let bad : ⊥ = cc in absurd bad

one_pair : (q p : Pair) → is_pair q p ≡ true → q ≡ p
one_pair q p is = same_pair q p ((Equal-is _).0 is)

own_pair : (p : Pair) → is_pair p p ≡ true
own_pair p = ap is_eq (tied_itself pair_order p)

module _ (numbers after : Pair → Option ℕ) (pairs pairs_after : ℕ → Option Pair) (made : ℕ) (one : AreOne numbers pairs made) (p : Pair) where
  -- after a pair has taken the next number
  pub one_arrived : numbers p ≡ None → ((q : Pair) → after q ≡ cond (is_pair q p) (Some made) (numbers q)) → ((n : ℕ) → pairs_after n ≡ cond (nat_eq made n) (Some p) (pairs n)) → AreOne after pairs_after (made + 1)
  one_arrived none now then = record {
    ready = λ q n is. either (is_pair q p)
        (λ t. let m = within made n (sym (chosen _ _ _ t) ∙ sym (now q) ∙ is) in then n ∙ chosen _ _ _ (eq-eqb made n m) ∙ ap Some (sym (one_pair q p t)))
        (λ f. let was = sym (passed _ _ _ f) ∙ sym (now q) ∙ is in either (nat_eq made n)
        (λ t. let m = eqb-true made n t in let low = one.given q n was in absurd (omega arith))
        (λ g. then n ∙ passed _ _ _ g ∙ one.ready q n was));
    owed = λ q n is. either (nat_eq made n)
        (λ t. let same = within p q (sym (chosen _ _ _ t) ∙ sym (then n) ∙ is) in now q ∙ chosen _ _ _ (subst (λ q. is_pair q p ≡ true) same (own_pair p)) ∙ ap Some (eqb-true made n t))
        (λ f. let was = one.owed q n (sym (passed _ _ _ f) ∙ sym (then n) ∙ is) in either (is_pair q p)
        (λ t. apart n (sym none ∙ ap numbers (sym (one_pair q p t)) ∙ was))
        (λ g. now q ∙ passed _ _ _ g ∙ was));
    given = λ q n is. either (is_pair q p)
        (λ t. let m = within made n (sym (chosen _ _ _ t) ∙ sym (now q) ∙ is) in omega arith)
        (λ f. let low = one.given q n (sym (passed _ _ _ f) ∙ sym (now q) ∙ is) in omega arith);
  }

  -- after a pair has lost its number
  pub one_freed : (k : ℕ) → pairs k ≡ Some p → ((q : Pair) → after q ≡ cond (is_pair q p) None (numbers q)) → ((n : ℕ) → pairs_after n ≡ cond (nat_eq k n) None (pairs n)) → AreOne after pairs_after made
  one_freed k is_at now then = record {
    ready = λ q n is. either (is_pair q p)
        (λ t. apart n (sym (chosen _ _ _ t) ∙ sym (now q) ∙ is))
        (λ f. let was = one.ready q n (sym (passed _ _ _ f) ∙ sym (now q) ∙ is) in either (nat_eq k n)
        (λ t. let same = within p q (sym is_at ∙ ap pairs (eqb-true k n t) ∙ was) in let bad : true ≡ false = sym (subst (λ q. is_pair q p ≡ true) same (own_pair p)) ∙ f in cc)
        (λ g. then n ∙ passed _ _ _ g ∙ was));
    owed = λ q n is. either (nat_eq k n)
        (λ t. apart q (sym (chosen _ _ _ t) ∙ sym (then n) ∙ is))
        (λ f. let was = one.owed q n (sym (passed _ _ _ f) ∙ sym (then n) ∙ is) in either (is_pair q p)
        (λ t. let m = within k n (sym (one.owed p k is_at) ∙ ap numbers (sym (one_pair q p t)) ∙ was) in let bad : true ≡ false = sym (eq-eqb k n m) ∙ f in cc)
        (λ g. now q ∙ passed _ _ _ g ∙ was));
    given = λ q n is. either (is_pair q p)
        (λ t. apart n (sym (chosen _ _ _ t) ∙ sym (now q) ∙ is))
        (λ f. one.given q n (sym (passed _ _ _ f) ∙ sym (now q) ∙ is));
  }
