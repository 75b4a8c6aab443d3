use Rattle.std.proofs.Common.{arith}
use Rattle.std.proofs.lemmas.Grind.{common_steps}
use Rattle.uno_entities.proofs.NameParts.{length_parts}
use Rattle.uno_entities.proofs.identifier.points.Goals as goal

pub returns : goal.returns
returns c = let parts = length_parts c.args.name.now in grind (arith, common_steps, parts)
