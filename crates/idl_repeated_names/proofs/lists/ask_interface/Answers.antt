use Rattle.idl_repeated_names.proofs.MeetingLemmas.{asks_then}
use Rattle.idl_repeated_names.proofs.lists.ask_interface.Goals as goal

pub returns : goal.returns
returns c = asks_then c.args.twins.now c.ask_members.new.twins c.ask_methods.new.twins _ _ c.in_ok-ask_members.ensures c.in_ok-ask_methods.ensures
