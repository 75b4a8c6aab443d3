use Rattle.idl_repeated_names.proofs.WayLemmas.{begins}
use Rattle.idl_repeated_names.proofs.way.Way.new.Goals as goal

pub returns : goal.returns
returns c = λ over. begins over (record { steps = c.new.result; twins = c.new-2.result }) c.new-2.ensures.met c.new.ensures.items c.new-2.ensures.found
