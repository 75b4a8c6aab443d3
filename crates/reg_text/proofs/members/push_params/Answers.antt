use Rattle.std.proofs.Common.{sym}
use Rattle.uno_entities.specs.Entities.{param_of}
use Rattle.registry_text_model.specs.Lines.{param_line}
use Rattle.reg_text.proofs.TextLemmas.{line_more, no_lines}
use Rattle.reg_text.proofs.members.push_params.Goals as goal

pub loop-param-init : goal.loop-param-init
loop-param-init c = sym (no_lines c.args.text.now.items)

pub loop-param-preserved : goal.loop-param-preserved
loop-param-preserved c = line_more c.args.params.now c.loop-param.param-index c.param-item.result _ _ _ param_of param_line c.loop-param-test.true c.param-item.is c.loop-param.invariant c.in_ok-push_param.ensures
