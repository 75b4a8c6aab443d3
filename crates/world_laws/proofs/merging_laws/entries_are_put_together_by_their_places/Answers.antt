use Rattle.world_laws.proofs.MergeLaws.{merged_again}
use Rattle.world_laws.proofs.merging_laws.entries_are_put_together_by_their_places.Goals as goal

pub returns : goal.returns
returns c = merged_again
