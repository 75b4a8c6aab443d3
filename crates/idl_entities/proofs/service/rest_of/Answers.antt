use Rattle.std.proofs.Common.{ap, ◌∙◌, Some}
use Rattle.idl_entities.proofs.ServiceLemmas.{none_taken, rest_taken}
use Rattle.idl_trees.specs.Members.{constructor_parameter_of}
use Rattle.idl_entities.proofs.service.rest_of.Goals as goal

pub returns-then-not-last : goal.returns-then-not-last
returns-then-not-last c = none_taken constructor_parameter_of c.args.parameters.now _ c.in-Some.last.now c.in-Some.ensures.cases.0 c.if-not-last.true

pub returns : goal.returns
returns c =
    ap Some c.in_ok-name.ensures ∙ rest_taken constructor_parameter_of c.args.parameters.now _ c.in-Some.last.now c.in-Some.ensures.cases.0 c.if-not-last.false
