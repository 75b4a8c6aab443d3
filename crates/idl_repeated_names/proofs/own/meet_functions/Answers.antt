use Rattle.idl_repeated_names.proofs.MeetingLemmas.{meets_then}
use Rattle.idl_repeated_names.proofs.own.meet_functions.Goals as goal

pub returns : goal.returns
returns c = meets_then c.args.twins.now c.meet_attributes.new.twins c.meet_methods.new.twins _ _ c.in_ok-meet_attributes.ensures c.in_ok-meet_methods.ensures
