use Rattle.idl_repeated_names.proofs.WalkLemmas.{no_walk}
use Rattle.idl_repeated_names.proofs.walk.no_walk.Goals as goal

pub returns : goal.returns
returns c = λ over. no_walk over (record { way = c.new.result; found = c.new-2.result }) (c.new.ensures over) c.new-2.ensures.empty
