use Rattle.idl_repeated_names.proofs.repeated.least_of.Goals as goal

pub returns : goal.returns
returns c = λ paths knows. c.least_left.ensures paths knows c.in_ok-asked.ensures
