use Rattle.world_laws.proofs.MergeLaws.{how_many}
use Rattle.world_laws.proofs.merging_laws.there_are_as_many_as_both_have.Goals as goal

pub returns : goal.returns
returns c = how_many
