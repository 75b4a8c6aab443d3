use Rattle.idl_repeated_names.proofs.TwinsLemmas.{none_met}
use Rattle.idl_repeated_names.proofs.twins.Twins.new.Goals as goal

pub returns-clause-met : goal.returns-clause-met
returns-clause-met c = none_met c.new.result c.new-2.result.items c.new.ensures.empty c.new-2.ensures.items
