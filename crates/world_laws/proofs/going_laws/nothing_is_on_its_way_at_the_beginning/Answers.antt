use Rattle.world_laws.proofs.GoingOn.{opening_piped}
use Rattle.world_laws.proofs.going_laws.nothing_is_on_its_way_at_the_beginning.Goals as goal

pub returns : goal.returns
returns c = opening_piped
