use Rattle.idl_repeated_names.proofs.TwinsLemmas.{none_met}
use Rattle.idl_repeated_names.proofs.twins.Twins.forget.Goals as goal

pub returns-clause-met : goal.returns-clause-met
returns-clause-met c = none_met c.clear.new.self c.clear-2.new.self.items c.clear.ensures.empty c.clear-2.ensures.items
