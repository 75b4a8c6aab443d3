use Rattle.idl_repeated_names.proofs.MeetingLemmas.{asks_then}
use Rattle.idl_repeated_names.proofs.lists.ask_service.Goals as goal

pub returns : goal.returns
returns c = asks_then c.args.twins.now c.ask_constructors.new.twins c.ask_each_constructor.new.twins _ _ c.in_ok-ask_constructors.ensures c.in_ok-ask_each_constructor.ensures
