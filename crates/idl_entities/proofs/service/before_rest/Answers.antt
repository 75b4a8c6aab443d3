use Rattle.idl_entities.proofs.ServiceLemmas.{others_before, all_before}
use Rattle.idl_trees.specs.Members.{constructor_parameter_of}
use Rattle.idl_entities.proofs.service.before_rest.Goals as goal

pub returns-then-last : goal.returns-then-last
returns-then-last c = others_before constructor_parameter_of c.args.parameters.now c.in-Some.others.now c.in-Some.last.now c.in-Some.ensures.cases.0 c.if-last.true

pub returns : goal.returns
returns c = all_before constructor_parameter_of c.args.parameters.now c.in-Some.others.now c.in-Some.last.now c.in-Some.ensures.cases.0 c.if-last.false
