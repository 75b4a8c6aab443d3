use Rattle.std.proofs.Common.{subst}
use Rattle.idl_repeated_names.specs.Meeting.{Asks}
use Rattle.idl_repeated_names.specs.Over.{lists_over, owned}
use Rattle.idl_repeated_names.proofs.MeetingLemmas.{asks_then}
use Rattle.idl_repeated_names.proofs.RepeatedLemmas.{asked_more}
use Rattle.idl_trees.specs.Trees.{declaration_of}
use Rattle.idl_repeated_names.proofs.repeated.least_with.Goals as goal

pub returns : goal.returns
returns c = λ so.
    asked_more c.new-twins.result c.count_over.new.twins _ c.args.entry.now.declared.name.now.place c.args.least c.new-twins.ensures.own c.new-twins.ensures.least
    (asks_then c.new-twins.result c.ask_own.new.twins c.count_over.new.twins _ _ c.in_ok-ask_own.ensures
    (subst
    (λ n. Asks c.ask_own.new.twins c.count_over.new.twins
    (lists_over (owned c.args.around.owners.now) c.args.around.built_in.now c.args.around.registry.now n (declaration_of c.args.entry.now.declared.body.now))) c.as_str-name.ensures (c.in_ok-count_over.ensures so)))
