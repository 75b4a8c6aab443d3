-- The value of an expression where names have values, or why it has none: whole numbers of 128 bits (UNOIDL grammar, expressions).
use Rattle.std.specs.Int.{w128, int_bit_and, int_bit_or, int_bit_xor, int_shr}
use Rattle.std.specs.Prelude.{ℕ, ◌^◌, ℤ, pos, negsuc, ◌+ℤ◌, ◌-ℤ◌, ◌*ℤ◌, neg_ℤ, int_div, int_rem, Bool, true, false, ◌&&◌, nat_lt, List, [], ◌∷◌, Option, None}
use Rattle.std.specs.Prelude.{Some, Result, Ok, Err, if◌then◌else◌}
use Rattle.std.specs.Ordering.{int_eq}
use Rattle.idl_model.specs.Trees.{Path, Operator, bit_or, bit_xor, bit_and, shift_left, shift_right, plus, minus, times, divided_by, remainder}
use Rattle.idl_model.specs.Trees.{Sign, positive, negative, complement, Expr, number, truth, constant, parentheses, signed, chain, Operands, no_operands}
use Rattle.idl_model.specs.Trees.{operand}

-- a value past 128 bits, or a shift by less than 0 or more than 63; a division by 0; a name that has no value
pub data ConstFault : Type 0 where
  range : ConstFault
  zero_divisor : ConstFault
  unknown_name : ConstFault

-- from -2^127 to 2^127 - 1
abbrev pub is_wide : ℤ → Bool
is_wide (pos n) = nat_lt n (2 ^ 127)
is_wide (negsuc n) = nat_lt n (2 ^ 127)

abbrev pub ranged : ℤ → Result ℤ ConstFault
ranged z = if is_wide z then Ok z else Err range

-- a value that there is goes on as it says, a refusal stays
abbrev pub and_then : Result ℤ ConstFault → (ℤ → Result ℤ ConstFault) → Result ℤ ConstFault
and_then (Ok z) go = go z
and_then (Err fault) go = Err fault

-- ---- operators

-- a quotient goes towards zero, and a remainder has the sign of the dividend
abbrev pub divided : (ℤ → ℤ → Result ℤ ConstFault) → ℤ → ℤ → Result ℤ ConstFault
divided of x y = if int_eq y (pos 0) then Err zero_divisor else of x y

-- a shift by 0 to 63 places; the count is judged before the value
abbrev pub shifted : (ℤ → ℕ → Result ℤ ConstFault) → ℤ → (count : ℤ) → Result ℤ ConstFault
shifted by x (pos n) = if nat_lt n 64 then by x n else Err range
shifted by x (negsuc n) = Err range

-- bits are those of two's complement, and a shift to the right goes downwards
unfoldable pub apply : Operator → ℤ → ℤ → Result ℤ ConstFault
apply bit_or x y = Ok (int_bit_or w128 x y)
apply bit_xor x y = Ok (int_bit_xor w128 x y)
apply bit_and x y = Ok (int_bit_and w128 x y)
apply shift_left x y = shifted (λ z n. ranged (z *ℤ pos (2 ^ n))) x y
apply shift_right x y = shifted (λ z n. Ok (int_shr z n)) x y
apply plus x y = ranged (x +ℤ y)
apply minus x y = ranged (x -ℤ y)
apply times x y = ranged (x *ℤ y)
apply divided_by x y = divided (λ a b. ranged (int_div a b)) x y
apply remainder x y = divided (λ a b. Ok (int_rem a b)) x y

-- `~a` is `-a-1`
unfoldable pub sign_applied : Sign → ℤ → Result ℤ ConstFault
sign_applied positive z = Ok z
sign_applied negative z = ranged (neg_ℤ z)
sign_applied complement z = Ok (neg_ℤ z -ℤ pos 1)

-- the last sign first
unfoldable pub signs_applied : List Sign → ℤ → Result ℤ ConstFault
signs_applied [] z = Ok z
signs_applied (s ∷ ss) z = and_then (signs_applied ss z) (sign_applied s)

-- ---- expressions

abbrev pub truth_value : Bool → ℤ
truth_value true = pos 1
truth_value false = pos 0

abbrev pub known : Option ℤ → Result ℤ ConstFault
known None = Err unknown_name
known (Some z) = Ok z

-- operands from left to right, and each operator behind its operands: so the first refusal is the one that counts
unfoldable mutual
  pub value : (names : Path → Option ℤ) → Expr → Result ℤ ConstFault
  value names (number n) = Ok (pos n)
  value names (truth b) = Ok (truth_value b)
  value names (constant path) = known (names path)
  value names (parentheses e) = value names e
  value names (signed signs e) = and_then (value names e) (signs_applied signs)
  value names (chain e es) = and_then (value names e) (λ z. values names z es)

  -- what is worked out so far, and the operands that are left of a chain
  pub values : (names : Path → Option ℤ) → ℤ → Operands → Result ℤ ConstFault
  values names z no_operands = Ok z
  values names z (operand op e es) = and_then (and_then (value names e) (apply op z)) (λ y. values names y es)

-- the numbers in an expression are below 2^64, as those of tokens are
unfoldable mutual
  pub numbers_fit : Expr → Bool
  numbers_fit (number n) = nat_lt n (2 ^ 64)
  numbers_fit (truth b) = true
  numbers_fit (constant path) = true
  numbers_fit (parentheses e) = numbers_fit e
  numbers_fit (signed signs e) = numbers_fit e
  numbers_fit (chain e es) = numbers_fit e && operands_fit_numbers es

  pub operands_fit_numbers : Operands → Bool
  operands_fit_numbers no_operands = true
  operands_fit_numbers (operand op e es) = numbers_fit e && operands_fit_numbers es
