use Rattle.idl_repeated_names.specs.Over.{owned}
use Rattle.idl_repeated_names.proofs.MeetingLemmas.{counts_one}
use Rattle.idl_repeated_names.proofs.repeated.count_over.Goals as goal

pub returns-in-Some : goal.returns-in-Some
returns-in-Some c = λ so.
    counts_one c.args.twins.now c.count.new.self c.in-Some.found _ c.count.ensures.own c.count.ensures.least
    (c.in-Some.ensures (owned c.args.around.owners.now) c.args.around.built_in.now c.args.around.registry.now so)

pub returns : goal.returns
returns c = λ so. c.in_ok-ask_over.ensures
