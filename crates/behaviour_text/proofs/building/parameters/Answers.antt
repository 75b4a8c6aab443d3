use Rattle.behaviour_text.proofs.ParameterLemmas.{param_next, param_end}
use Rattle.behaviour_text.proofs.building.parameters.Goals as goal

pub loop-param-preserved : goal.loop-param-preserved
loop-param-preserved c = param_next _ _ _ _ _ _ _ c.loop-param-test.true c.param-item.is c.in_ok-parameter.ensures c.in_ok-push.ensures c.loop-param.invariant

pub returns : goal.returns
returns c = param_end _ _ _ _ c.loop-param-test.false c.loop-param.invariant
