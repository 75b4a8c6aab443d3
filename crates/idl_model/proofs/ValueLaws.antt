-- Values of expressions stay within 128 bits, and the first refusal from left to right counts.
use Rattle.std.proofs.Common.{◌≡◌, ℕ, zero, suc, ◌-◌, ◌^◌, ◌<◌, ◌≤◌, ℤ, pos, negsuc, ◌-ℤ◌, ◌*ℤ◌, ◌+ℤ◌, neg_ℤ, Bool, true, false, nat_lt, List, [], ◌∷◌}
use Rattle.std.proofs.Common.{Option, None, Some, Result, Ok, Err, if◌then◌else◌}
use Rattle.std.proofs.Common.{refl, sym, ap, subst, ◌∙◌, arith}
use Rattle.std.proofs.lemmas.Bool.{and_parts, lt-ltb, ltb-true, ltb-false, false≢true, true≢false}
use Rattle.std.proofs.lemmas.Int.{ints, quot-rem, rem_below}
use Rattle.std.proofs.lemmas.Nat.{or_lt, xor_lt, and_le_l}
use Rattle.std.specs.Int.{w128, int_shr, cast_signed, cast_unsigned}
use Rattle.std.specs.Int.Bits.{bit_and}
use Rattle.std.specs.Int.RustNames.{int_div, int_rem, unsigned_abs}
use Rattle.std.specs.Int.Signed.{mag, mag_rem, mag_shr}
use Rattle.std.specs.Ordering.{int_eq}
use Rattle.std.specs.Prelude.{int_lt, ◌%◌}
use Rattle.std.proofs.Math.Nat.{mod-le}
use Rattle.idl_model.specs.Trees.{Path, Operator, shift_left, shift_right, plus, minus, times, divided_by, remainder}
use Rattle.idl_model.specs.Trees as tree
use Rattle.idl_model.specs.Trees.{Sign, positive, negative, complement, Expr, number, truth, constant, parentheses, signed, chain, Operands, no_operands}
use Rattle.idl_model.specs.Trees.{operand}
use Rattle.idl_model.specs.Values.{ConstFault, range, zero_divisor, is_wide, ranged, and_then, divided, shifted, apply, sign_applied, signs_applied}
use Rattle.idl_model.specs.Values.{truth_value, known, value, values}
use Rattle.idl_model.specs.Values.{numbers_fit, operands_fit_numbers}

-- ---- what is worked out in steps

same_value : {z y : ℤ} → ◌≡◌ {A = Result ℤ ConstFault} (Ok z) (Ok y) → z ≡ y
same_value {z} {y} e = ap (or_other y) e
  where
    or_other : ℤ → Result ℤ ConstFault → ℤ
    or_other other (Ok x) = x
    or_other other (Err fault) = other

no_value : {fault : ConstFault} {z : ℤ} → ◌≡◌ {A = Result ℤ ConstFault} (Err fault) (Ok z) → ⊥
no_value e = let bad : ⊥ = cc in bad

-- the value in between
between : (r : Result ℤ ConstFault) (go : ℤ → Result ℤ ConstFault) (z : ℤ) → and_then r go ≡ Ok z → (y : ℤ) × (r ≡ Ok y) × (go y ≡ Ok z)
between (Ok y) go z e = (y, refl, e)
between (Err fault) go z e = absurd (no_value e)

-- ---- 128 bits

small_is_wide : (z : ℤ) → mag z < 2 ^ 127 → is_wide z ≡ true
small_is_wide (pos n) small = lt-ltb n (2 ^ 127) small
small_is_wide (negsuc n) small = lt-ltb n (2 ^ 127) small

wide_is_small : (z : ℤ) → is_wide z ≡ true → mag z < 2 ^ 127
wide_is_small (pos n) wide = ltb-true n (2 ^ 127) wide
wide_is_small (negsuc n) wide = ltb-true n (2 ^ 127) wide

ranged_is_wide : (z y : ℤ) → ranged z ≡ Ok y → is_wide y ≡ true
ranged_is_wide z y e = by_test (is_wide z) refl e
  where
    by_test : (b : Bool) → is_wide z ≡ b → (if b then Ok z else Err range) ≡ Ok y → is_wide y ≡ true
    by_test true wide e = subst (λ x. is_wide x ≡ true) (same_value e) wide
    by_test false wide e = absurd (no_value e)

bits_below : (z : ℤ) → is_wide z ≡ true → cast_unsigned w128 z < 2 ^ 128
bits_below (pos n) wide = let small = wide_is_small (pos n) wide in omega (arith, small)
bits_below (negsuc n) wide = let small = wide_is_small (negsuc n) wide in omega (arith, small)

cast_is_wide : (n : ℕ) → n < 2 ^ 128 → is_wide (cast_signed w128 n) ≡ true
cast_is_wide n below = by_test (nat_lt n (2 ^ 127)) refl
  where
    by_test : (b : Bool) → nat_lt n (2 ^ 127) ≡ b → is_wide (cast_signed w128 n) ≡ true
    by_test true e = rw e e
    by_test false e = rw e (lt-ltb (2 ^ 128 - suc n) (2 ^ 127) (let other = ltb-false n (2 ^ 127) e in omega (arith, below, other)))

-- ---- each operator

divided_is_wide : (of : ℤ → ℤ → Result ℤ ConstFault) (x y z : ℤ) → (of x y ≡ Ok z → is_wide z ≡ true) → divided of x y ≡ Ok z → is_wide z ≡ true
divided_is_wide of x y z each e = by_test (int_eq y (pos 0)) e
  where
    by_test : (b : Bool) → (if b then Err zero_divisor else of x y) ≡ Ok z → is_wide z ≡ true
    by_test true e = absurd (no_value e)
    by_test false e = each e

shifted_is_wide : (by : ℤ → ℕ → Result ℤ ConstFault) (x y z : ℤ) → ((n : ℕ) → by x n ≡ Ok z → is_wide z ≡ true) → shifted by x y ≡ Ok z → is_wide z ≡ true
shifted_is_wide by x (negsuc n) z each e = absurd (no_value e)
shifted_is_wide by x (pos n) z each e = by_test (nat_lt n 64) e
  where
    by_test : (b : Bool) → (if b then by x n else Err range) ≡ Ok z → is_wide z ≡ true
    by_test true e = each n e
    by_test false e = absurd (no_value e)

came_to : (x z : ℤ) → ◌≡◌ {A = Result ℤ ConstFault} (Ok x) (Ok z) → is_wide x ≡ true → is_wide z ≡ true
came_to x z e wide = subst (λ y. is_wide y ≡ true) (same_value e) wide

smaller_is_wide : (x z : ℤ) → mag z ≤ mag x → is_wide x ≡ true → is_wide z ≡ true
smaller_is_wide x z less wide = let small = wide_is_small x wide in small_is_wide z (omega (arith, less, small))

apply_is_wide : (op : Operator) (x y z : ℤ) → is_wide x ≡ true → is_wide y ≡ true → apply op x y ≡ Ok z → is_wide z ≡ true
unfolding apply
apply_is_wide tree.bit_or x y z wide also e = came_to _ z e (cast_is_wide _ (or_lt 128 _ _ (bits_below x wide) (bits_below y also)))
apply_is_wide tree.bit_xor x y z wide also e = came_to _ z e (cast_is_wide _ (xor_lt 128 _ _ (bits_below x wide) (bits_below y also)))
apply_is_wide tree.bit_and x y z wide also e =
    let less = and_le_l (cast_unsigned w128 x) (cast_unsigned w128 y) in
    let below = bits_below x wide in
    came_to _ z e (cast_is_wide (bit_and (cast_unsigned w128 x) (cast_unsigned w128 y)) (omega (arith, less, below)))
apply_is_wide shift_left x y z wide also e = shifted_is_wide (λ a n. ranged (a *ℤ pos (2 ^ n))) x y z (λ n there. ranged_is_wide (x *ℤ pos (2 ^ n)) z there) e
apply_is_wide shift_right x y z wide also e =
    shifted_is_wide (λ a n. Ok (int_shr a n)) x y z (λ n there. came_to (int_shr x n) z there (smaller_is_wide x (int_shr x n) (mag_shr x (2 ^ n)) wide)) e
apply_is_wide plus x y z wide also e = ranged_is_wide (x +ℤ y) z e
apply_is_wide minus x y z wide also e = ranged_is_wide (x -ℤ y) z e
apply_is_wide times x y z wide also e = ranged_is_wide (x *ℤ y) z e
apply_is_wide divided_by x y z wide also e = divided_is_wide (λ a b. ranged (int_div a b)) x y z (λ there. ranged_is_wide (int_div x y) z there) e
apply_is_wide remainder x y z wide also e =
    divided_is_wide (λ a b. Ok (int_rem a b)) x y z (λ there. came_to (int_rem x y) z there (smaller_is_wide x (int_rem x y) (mag_rem x y) wide)) e

complement_is_wide : (z : ℤ) → is_wide z ≡ true → is_wide (neg_ℤ z -ℤ pos 1) ≡ true
complement_is_wide (pos zero) wide = refl
complement_is_wide (pos (suc n)) wide = let small = wide_is_small (pos (suc n)) wide in small_is_wide (neg_ℤ (pos (suc n)) -ℤ pos 1) (omega (arith, small))
complement_is_wide (negsuc n) wide = let same : neg_ℤ (negsuc n) -ℤ pos 1 ≡ pos n = omega (arith, ints) in rw same wide

sign_is_wide : (s : Sign) (x z : ℤ) → is_wide x ≡ true → sign_applied s x ≡ Ok z → is_wide z ≡ true
unfolding sign_applied
sign_is_wide positive x z wide e = came_to x z e wide
sign_is_wide negative x z wide e = ranged_is_wide (neg_ℤ x) z e
sign_is_wide complement x z wide e = came_to _ z e (complement_is_wide x wide)

signs_are_wide : (ss : List Sign) (x z : ℤ) → is_wide x ≡ true → signs_applied ss x ≡ Ok z → is_wide z ≡ true
unfolding signs_applied
signs_are_wide [] x z wide e = came_to x z e wide
signs_are_wide (s ∷ ss) x z wide e =
    let inner = between (signs_applied ss x) (sign_applied s) z e in
    sign_is_wide s inner.0 z (signs_are_wide ss x inner.0 wide inner.1) inner.2

-- ---- expressions

-- each name that has a value has one of 128 bits
abbrev pub NamesAreWide : (Path → Option ℤ) → Type 0
NamesAreWide names = (path : Path) (z : ℤ) → names path ≡ Some z → is_wide z ≡ true

known_is_wide : (o : Option ℤ) (z : ℤ) → known o ≡ Ok z → ((y : ℤ) → o ≡ Some y → is_wide y ≡ true) → is_wide z ≡ true
known_is_wide None z e each = absurd (no_value e)
known_is_wide (Some y) z e each = came_to y z e (each y refl)

number_is_wide : (n : ℕ) → nat_lt n (2 ^ 64) ≡ true → is_wide (pos n) ≡ true
number_is_wide n fits = let small = ltb-true n (2 ^ 64) fits in small_is_wide (pos n) (omega (arith, small))

truth_is_wide : (b : Bool) → is_wide (truth_value b) ≡ true
truth_is_wide true = refl
truth_is_wide false = refl

mutual
  unfolding value numbers_fit

  pub value_is_wide : (names : Path → Option ℤ) (e : Expr) (z : ℤ) → NamesAreWide names → numbers_fit e ≡ true → value names e ≡ Ok z → is_wide z ≡ true
  value_is_wide names (number n) z wide fits e = came_to (pos n) z e (number_is_wide n fits)
  value_is_wide names (truth b) z wide fits e = came_to (truth_value b) z e (truth_is_wide b)
  value_is_wide names (constant path) z wide fits e = known_is_wide (names path) z e (wide path)
  value_is_wide names (parentheses x) z wide fits e = value_is_wide names x z wide fits e
  value_is_wide names (signed ss x) z wide fits e =
      let inner = between (value names x) (signs_applied ss) z e in
      signs_are_wide ss inner.0 z (value_is_wide names x inner.0 wide fits inner.1) inner.2
  value_is_wide names (chain x xs) z wide fits e =
      let parts = and_parts (numbers_fit x) (operands_fit_numbers xs) fits in
      let inner = between (value names x) (λ y. values names y xs) z e in
      values_are_wide names xs inner.0 z wide parts.1 (value_is_wide names x inner.0 wide parts.0 inner.1) inner.2

  pub values_are_wide : (names : Path → Option ℤ) (xs : Operands) (so_far z : ℤ) → NamesAreWide names → operands_fit_numbers xs ≡ true → is_wide so_far ≡ true
      → values names so_far xs ≡ Ok z → is_wide z ≡ true
  values_are_wide names no_operands so_far z wide fits here e = came_to so_far z e here
  values_are_wide names (operand op x xs) so_far z wide fits here e =
      let parts = and_parts (numbers_fit x) (operands_fit_numbers xs) fits in
      let outer = between (and_then (value names x) (apply op so_far)) (λ y. values names y xs) z e in
      let inner = between (value names x) (apply op so_far) outer.0 outer.1 in
      let operand_wide = value_is_wide names x inner.0 wide parts.0 inner.1 in
      values_are_wide names xs outer.0 z wide parts.1 (apply_is_wide op so_far inner.0 outer.0 here operand_wide inner.2) outer.2

-- ---- the first refusal

pub first_refused : (names : Path → Option ℤ) (e : Expr) (es : Operands) (fault : ConstFault) → value names e ≡ Err fault → value names (chain e es) ≡ Err fault
unfolding value
first_refused names e es fault refused = rw refused refl

pub operand_refused : (names : Path → Option ℤ) (z : ℤ) (op : Operator) (e : Expr) (es : Operands) (fault : ConstFault) → value names e ≡ Err fault
    → values names z (operand op e es) ≡ Err fault
unfolding value
operand_refused names z op e es fault refused = rw refused refl

pub operator_refused : (names : Path → Option ℤ) (z y : ℤ) (op : Operator) (e : Expr) (es : Operands) (fault : ConstFault) → value names e ≡ Ok y
    → apply op z y ≡ Err fault
    → values names z (operand op e es) ≡ Err fault
unfolding value
operator_refused names z y op e es fault here refused = rw (here, refused) refl

pub operand_taken : (names : Path → Option ℤ) (z y x : ℤ) (op : Operator) (e : Expr) (es : Operands) → value names e ≡ Ok y → apply op z y ≡ Ok x
    → values names z (operand op e es) ≡ values names x es
unfolding value
operand_taken names z y x op e es here taken = rw (here, taken) refl

-- ---- quotients and remainders

-- what a division by other than 0 came to
divided_to : (of : ℤ → ℤ → Result ℤ ConstFault) (x y z : ℤ) → divided of x y ≡ Ok z → (int_eq y (pos 0) ≡ false) × (of x y ≡ Ok z)
divided_to of x y z e = by_test (int_eq y (pos 0)) refl e
  where
    by_test : (b : Bool) → int_eq y (pos 0) ≡ b → (if b then Err zero_divisor else of x y) ≡ Ok z → (int_eq y (pos 0) ≡ false) × (of x y ≡ Ok z)
    by_test true zero_it e = absurd (no_value e)
    by_test false other e = (other, e)

ranged_to : (z y : ℤ) → ranged z ≡ Ok y → z ≡ y
ranged_to z y e = by_test (is_wide z) e
  where
    by_test : (b : Bool) → (if b then Ok z else Err range) ≡ Ok y → z ≡ y
    by_test true e = same_value e
    by_test false e = absurd (no_value e)

some_amount : (y : ℤ) → int_eq y (pos 0) ≡ false → 0 < unsigned_abs y
some_amount (pos zero) other = absurd (true≢false other)
some_amount (pos (suc n)) other = omega arith
some_amount (negsuc n) other = omega arith

pub quotient_and_remainder : (x y q r : ℤ) → apply divided_by x y ≡ Ok q → apply remainder x y ≡ Ok r → (q *ℤ y +ℤ r ≡ x) × (unsigned_abs r < unsigned_abs y)
unfolding apply
quotient_and_remainder x y q r first second =
    let quotient = divided_to (λ a b. ranged (int_div a b)) x y q first in
    let rest = divided_to (λ a b. Ok (int_rem a b)) x y r second in
    let q_is : int_div x y ≡ q = ranged_to (int_div x y) q quotient.1 in
    let r_is : int_rem x y ≡ r = same_value rest.1 in (
      ap (λ z. z *ℤ y +ℤ r) (sym q_is) ∙ ap (λ z. int_div x y *ℤ y +ℤ z) (sym r_is) ∙ quot-rem x y,
      subst (λ z. unsigned_abs z < unsigned_abs y) r_is (rem_below x y (some_amount y quotient.0)),
    )

remainder_sign : (x y : ℤ) → (int_lt (int_rem x y) (pos 0) ≡ true → int_lt x (pos 0) ≡ true) × (int_lt (pos 0) (int_rem x y) ≡ true → int_lt (pos 0) x ≡ true)
remainder_sign (pos a) y = (
  λ less. absurd (no_less (a % unsigned_abs y) less),
  λ more. let some = ltb-true 0 (a % unsigned_abs y) more in let bound = mod-le a (unsigned_abs y) in lt-ltb 0 a (omega (arith, some, bound)),
)
  where
    no_less : (n : ℕ) → nat_lt n 0 ≡ true → ⊥
    no_less n less = let below = ltb-true n 0 less in omega (arith, below)
remainder_sign (negsuc a) y = (λ less. refl, λ more. absurd (no_more (suc a % unsigned_abs y) more))
  where
    no_more : (n : ℕ) → int_lt (pos 0) (neg_ℤ (pos n)) ≡ true → ⊥
    no_more zero more = false≢true more
    no_more (suc n) more = false≢true more

pub remainder_has_the_sign : (x y r : ℤ) → apply remainder x y ≡ Ok r
    → (int_lt r (pos 0) ≡ true → int_lt x (pos 0) ≡ true) × (int_lt (pos 0) r ≡ true → int_lt (pos 0) x ≡ true)
unfolding apply
remainder_has_the_sign x y r e =
    let rest = divided_to (λ a b. Ok (int_rem a b)) x y r e in
    subst (λ z. (int_lt z (pos 0) ≡ true → int_lt x (pos 0) ≡ true) × (int_lt (pos 0) z ≡ true → int_lt (pos 0) x ≡ true))
    (same_value rest.1) (remainder_sign x y)
