use Rattle.std.proofs.Common.{◌∙◌}
use Rattle.std.proofs.lemmas.Int.{to_z-of_z}
use Rattle.std.specs.Int.{w128}
use Rattle.idl_meant.proofs.MeantLemmas.{fits_clamped, is_least, least_clamped, not_least}
use Rattle.idl_meant.proofs.declaration.clamped.Goals as goal

pub returns-then-number-eq-LEAST : goal.returns-then-number-eq-LEAST
returns-then-number-eq-LEAST c = least_clamped c.args.number (is_least c.args.number c.ranges.number c.if-number-eq-LEAST.true)

pub returns : goal.returns
returns c = to_z-of_z w128 c.args.number c.ranges.number ∙ fits_clamped c.args.number c.ranges.number (not_least c.args.number c.if-number-eq-LEAST.false)
