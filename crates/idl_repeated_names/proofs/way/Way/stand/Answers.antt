use Rattle.std.proofs.Common.{refl}
use Rattle.idl_repeated_names.proofs.way.Way.stand.Goals as goal

pub returns : goal.returns
returns c = record { taken = c.in_ok-take_back.ensures; steps = c.in_ok-push.ensures.items; found = refl }
