use Rattle.std.proofs.Common.{rules}
use Rattle.urp_model.specs.Parts.{number_at}
use Rattle.urp_wire.proofs.read.parts.four_bytes.Goals as goal

pub returns-in-Some : goal.returns-in-Some
unfolding number_at
returns-in-Some c = search rules
