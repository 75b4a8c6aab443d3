-- What the computation of a value gives: what the definition says.
use Rattle.std.specs.Prelude.{◌≡◌, ℕ, ℤ, pos, negsuc, nat_lt, Option, None, Some, Result, Ok, Err, if◌then◌else◌}
use Rattle.idl_model.specs.Trees.{Path, Operator, Expr}
use Rattle.idl_model.specs.Values.{ConstFault, range, zero_divisor, unknown_name, and_then, apply, value}
use Rattle.idl_const.specs.declared.error.ConstError.{ConstError}
use Rattle.idl_const.specs.declared.error.ConstError.TheVariants as error

-- no memory is asked for
abbrev pub RefusedBy : ConstError → Result ℤ ConstFault → Type 0
RefusedBy error.NoMemory verdict = ⊥
RefusedBy error.Range verdict = verdict ≡ Err range
RefusedBy error.ZeroDivisor verdict = verdict ≡ Err zero_divisor
RefusedBy error.UnknownName verdict = verdict ≡ Err unknown_name

abbrev pub Gives : Result ℤ ConstError → Result ℤ ConstFault → Type 0
Gives (Ok z) verdict = verdict ≡ Ok z
Gives (Err e) verdict = RefusedBy e verdict

-- by how many places a shift goes
abbrev pub places_of : ℤ → Option ℕ
places_of (pos n) = if nat_lt n 64 then Some n else None
places_of (negsuc n) = None

-- what is worked out so far, with an operand behind its operator
abbrev pub stepped : (names : Path → Option ℤ) → ℤ → Operator × Expr → Result ℤ ConstFault
stepped names z x = and_then (value names x.1) (apply x.0 z)
