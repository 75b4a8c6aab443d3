-- The levels of reading a value, for functions that count them down.
use Rattle.std.proofs.Common.{◌≡◌, ℕ, zero, suc, ◌-◌, ◌<◌, List, Err, refl, arith}
use Rattle.uno_model.specs.Entities.{Entity}
use Rattle.uno_model.specs.Kinds.{Kind}
use Rattle.urp_model.specs.Reading.{value_step, value_at}
use Rattle.urp_model.specs.Tables.{Tables}
use Rattle.urp_model.specs.declared.fault.Fault.TheVariants.{Bad}
use Rattle.urp_model.specs.declared.reason.Reason.TheVariants.{Deep}

-- no level is left
pub value_at-deep : (reg : List Entity) (k : Kind) (s : Tables) (bs : List ℕ) → value_at 0 reg k s bs ≡ Err (Bad Deep)
unfolding value_at
value_at-deep reg k s bs = refl

-- one level is taken
pub value_at-level : (levels : ℕ) (reg : List Entity) (k : Kind) (s : Tables) (bs : List ℕ) → 0 < levels
    → value_at levels reg k s bs ≡ value_step reg (value_at (levels - 1) reg) k s bs
unfolding value_at
value_at-level zero reg k s bs some = absurd (omega arith)
value_at-level (suc levels) reg k s bs some = let one : suc levels - 1 ≡ levels = omega arith in rw one refl

-- what a function that counts levels down needs of them
pub ruleset levels = (value_at-deep, value_at-level)
