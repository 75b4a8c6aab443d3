-- Worked expressions: the value of each, or its first refusal.
use Rattle.std.proofs.Common.{◌≡◌, ℕ, ℤ, pos, negsuc, true, false, List, [], ◌∷◌, Option, None, Some, Result, Ok, Err, refl, codes, if◌then◌else◌}
use Rattle.std.specs.Str.{bytes_eq}
use Rattle.idl_model.specs.Trees.{Path, Operator, bit_or, bit_xor, bit_and, shift_left, shift_right, plus, minus, times, divided_by, remainder}
use Rattle.idl_model.specs.Trees.{positive, negative, complement, Expr, number, truth, constant, parentheses, signed, chain, no_operands, operand}
use Rattle.idl_model.specs.Values.{ConstFault, range, zero_divisor, unknown_name, apply, sign_applied, signs_applied, value, values}

-- ---- expressions as they are written

abbrev behind : Expr → Operator → Expr → Expr
behind x op y = chain x (operand op y no_operands)

abbrev minus_of : Expr → Expr
minus_of e = signed (negative ∷ []) e

abbrev not_of : Expr → Expr
not_of e = signed (complement ∷ []) e

abbrev name_of : List ℕ → Expr
name_of name = constant (record { place = record { file = 0; byte = 0 }; absolute = false; parts = name ∷ [] })

abbrev x_name : Expr
x_name = name_of (codes "X")

-- X is 7, and no other name has a value
abbrev only_x : List (List ℕ) → Option ℤ
only_x (name ∷ []) = if bytes_eq name (codes "X") then Some (pos 7) else None
only_x parts = None

abbrev seven : Path → Option ℤ
seven path = only_x path.parts

-- 2^126, and the greatest and the least value
abbrev great : Expr
great = chain (number 1) (operand shift_left (number 63) (operand shift_left (number 63) no_operands))

abbrev greatest : Expr
greatest = chain (parentheses (behind (parentheses (behind great minus (number 1))) times (number 2))) (operand plus (number 1) no_operands)

abbrev least : Expr
least = behind (minus_of (parentheses greatest)) minus (number 1)

-- ---- values

abbrev Row : Type 0
Row = Expr × Result ℤ ConstFault

abbrev computed : List Row → List Row
computed [] = []
computed (row ∷ rows) = (row.0, value seven row.0) ∷ computed rows

-- a quotient goes towards zero, and a remainder has the sign of the dividend
abbrev quotients : List Row
quotients =
    (behind (minus_of (number 7)) divided_by (number 2), Ok (negsuc 2))
    ∷ ((behind (number 7) divided_by (minus_of (number 2)), Ok (negsuc 2))
    ∷ ((behind (minus_of (number 7)) divided_by (minus_of (number 2)), Ok (pos 3))
    ∷ ((behind (number 1) divided_by (number 2), Ok (pos 0))
    ∷ ((behind (number 0) divided_by (minus_of (number 5)), Ok (pos 0))
    ∷ ((behind (minus_of (number 7)) remainder (number 2), Ok (negsuc 0))
    ∷ ((behind (number 7) remainder (minus_of (number 2)), Ok (pos 1))
    ∷ ((behind (minus_of (number 7)) remainder (minus_of (number 2)), Ok (negsuc 0))
    ∷ ((behind (number 6) remainder (number 3), Ok (pos 0))
    ∷ ((behind (number 1) divided_by (number 0), Err zero_divisor)
    ∷ ((behind (number 1) remainder (parentheses (behind (number 2) minus (number 2))), Err zero_divisor)
    ∷ []))))))))))

quotient_rows : computed quotients ≡ quotients
unfolding value values apply sign_applied signs_applied
quotient_rows = refl

-- `~a` is `-a-1`, the last sign counts first, and a truth is 1 or 0
abbrev signs : List Row
signs =
    (not_of (number 0), Ok (negsuc 0))
    ∷ ((not_of (number 5), Ok (negsuc 5))
    ∷ ((not_of (minus_of (number 1)), Ok (pos 0))
    ∷ ((signed (negative ∷ (negative ∷ [])) (number 3), Ok (pos 3))
    ∷ ((signed (negative ∷ (complement ∷ [])) (number 3), Ok (pos 4))
    ∷ ((signed (complement ∷ (negative ∷ [])) (number 3), Ok (pos 2))
    ∷ ((signed (positive ∷ (positive ∷ [])) (number 3), Ok (pos 3))
    ∷ ((behind (truth true) plus (truth true), Ok (pos 2))
    ∷ ((minus_of (truth true), Ok (negsuc 0))
    ∷ ((behind (truth false) bit_or (truth false), Ok (pos 0))
    ∷ [])))))))))

sign_rows : computed signs ≡ signs
unfolding value values apply sign_applied signs_applied
sign_rows = refl

-- a shift by 0 to 63 places, to the right downwards; its count is judged before the value
abbrev shifts : List Row
shifts =
    (behind (behind (number 1) shift_left (number 3)) bit_or (number 1), Ok (pos 9))
    ∷ ((behind (number 1) shift_left (number 0), Ok (pos 1))
    ∷ ((behind (number 1) shift_left (number 62), Ok (pos 4611686018427387904))
    ∷ ((behind (minus_of (number 1)) shift_left (number 3), Ok (negsuc 7))
    ∷ ((behind (number 1) shift_right (number 63), Ok (pos 0))
    ∷ ((behind (minus_of (number 1)) shift_right (number 63), Ok (negsuc 0))
    ∷ ((behind (minus_of (number 5)) shift_right (number 1), Ok (negsuc 2))
    ∷ ((behind (minus_of (number 8)) shift_right (number 2), Ok (negsuc 1))
    ∷ ((behind (number 1) shift_left (number 64), Err range)
    ∷ ((behind (number 1) shift_right (number 64), Err range)
    ∷ ((behind (number 0) shift_left (number 64), Err range)
    ∷ ((behind (number 1) shift_left (minus_of (number 1)), Err range)
    ∷ [])))))))))))

shift_rows : computed shifts ≡ shifts
unfolding value values apply sign_applied signs_applied
shift_rows = refl

-- bits are those of two's complement
abbrev bits : List Row
bits =
    (behind (minus_of (number 1)) bit_and (number 255), Ok (pos 255))
    ∷ ((behind (minus_of (number 8)) bit_or (number 1), Ok (negsuc 6))
    ∷ ((behind (minus_of (number 1)) bit_xor (number 1), Ok (negsuc 1))
    ∷ ((behind (number 6) bit_xor (number 3), Ok (pos 5))
    ∷ [])))

bit_rows : computed bits ≡ bits
unfolding value values apply sign_applied signs_applied
bit_rows = refl

-- operators of one level from left to right
abbrev chains : List Row
chains =
    (chain (number 10) (operand minus (number 3) (operand minus (number 2) no_operands)), Ok (pos 5))
    ∷ ((chain (number 100) (operand divided_by (number 10) (operand divided_by (number 5) no_operands)), Ok (pos 2))
    ∷ ((chain (number 7) (operand remainder (number 4) (operand times (number 2) no_operands)), Ok (pos 6))
    ∷ ((chain (number 256) (operand shift_right (number 2) (operand shift_right (number 1) no_operands)), Ok (pos 32))
    ∷ ((behind x_name plus (number 1), Ok (pos 8))
    ∷ []))))

chain_rows : computed chains ≡ chains
unfolding value values apply sign_applied signs_applied
chain_rows = refl

-- 128 bits, and no more
abbrev widths : List Row
widths =
    (greatest, Ok (pos 170141183460469231731687303715884105727))
    ∷ ((least, Ok (negsuc 170141183460469231731687303715884105727))
    ∷ ((behind (parentheses great) times (number 2), Err range)
    ∷ ((behind (parentheses greatest) plus (number 1), Err range)
    ∷ ((behind (parentheses least) minus (number 1), Err range)
    ∷ ((minus_of (parentheses least), Err range)
    ∷ ((not_of (parentheses least), Ok (pos 170141183460469231731687303715884105727))
    ∷ ((behind (parentheses least) divided_by (minus_of (number 1)), Err range)
    ∷ ((behind (parentheses least) remainder (minus_of (number 1)), Ok (pos 0))
    ∷ ((behind (parentheses least) bit_or (number 1), Ok (negsuc 170141183460469231731687303715884105726))
    ∷ [])))))))))

width_rows : computed widths ≡ widths
unfolding value values apply sign_applied signs_applied
width_rows = refl

-- the first refusal from left to right, an operator behind its operands
abbrev refusals : List Row
refusals =
    (name_of (codes "Y"), Err unknown_name)
    ∷ ((behind (name_of (codes "Y")) divided_by (number 0), Err unknown_name)
    ∷ ((behind (number 1) divided_by (name_of (codes "Y")), Err unknown_name)
    ∷ ((chain (number 1) (operand divided_by (number 0) (operand times (name_of (codes "Y")) no_operands)), Err zero_divisor)
    ∷ ((behind (behind (number 1) divided_by (number 0)) plus (name_of (codes "Y")), Err zero_divisor)
    ∷ ((behind (parentheses (behind (number 1) shift_left (number 64))) divided_by (number 0), Err range)
    ∷ ((behind (number 1) shift_left (parentheses (behind (number 1) divided_by (number 0))), Err zero_divisor)
    ∷ ((minus_of (name_of (codes "Y")), Err unknown_name)
    ∷ [])))))))

refusal_rows : computed refusals ≡ refusals
unfolding value values apply sign_applied signs_applied
refusal_rows = refl
