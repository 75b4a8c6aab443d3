use Rattle.idl_repeated_names.proofs.TwinsLemmas.{known_otherwise}
use Rattle.idl_repeated_names.proofs.twins.note.Goals as goal

pub returns : goal.returns
returns c = known_otherwise c.args.known.now c.insert.new.self c.args.key c.args.least c.in_ok-insert.ensures.updates
