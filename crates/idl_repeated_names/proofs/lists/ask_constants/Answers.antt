use Rattle.idl_repeated_names.proofs.MeetingLemmas.{asks_one}
use Rattle.idl_repeated_names.proofs.lists.ask_constants.Goals as goal

pub returns : goal.returns
returns c =
    asks_one c.args.twins.now c.forget.new.self c.meet_constants.new.twins c.count_met.new.self _ c.forget.ensures.met c.forget.ensures.own c.forget.ensures.found c.forget.ensures.least c.in_ok-meet_constants.ensures c.count_met.ensures.own
    c.count_met.ensures.least
