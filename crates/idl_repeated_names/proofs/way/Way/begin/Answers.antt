use Rattle.idl_repeated_names.proofs.WayLemmas.{begins}
use Rattle.idl_repeated_names.proofs.way.Way.begin.Goals as goal

pub returns : goal.returns
returns c = λ over. begins over (record { steps = c.clear.new.self; twins = c.forget.new.self }) c.forget.ensures.met c.clear.ensures.items c.forget.ensures.found
