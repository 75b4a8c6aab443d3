use Rattle.idl_repeated_names.proofs.SumsLemmas.{both_found}
use Rattle.idl_repeated_names.proofs.twins.Twins.count.Goals as goal

pub returns-clause-least : goal.returns-clause-least
returns-clause-least c = λ them ps sums finds.
    both_found ps _ c.args.self.now.least c.least_with.result c.least_of_both-self.result c.least_of_both-self.ensures finds (c.least_with.ensures them sums)
