use Rattle.std.proofs.Common.{sym}
use Rattle.uno_entities.specs.Entities.{constant_of}
use Rattle.registry_text_model.specs.Lines.{constant_line}
use Rattle.reg_text.proofs.TextLemmas.{line_more, no_lines}
use Rattle.reg_text.proofs.parts.push_constants.Goals as goal

pub loop-constant-init : goal.loop-constant-init
loop-constant-init c = sym (no_lines c.args.text.now.items)

pub loop-constant-preserved : goal.loop-constant-preserved
loop-constant-preserved c = line_more c.args.constants.now c.loop-constant.constant-index c.constant-item.result _ _ _ constant_of constant_line c.loop-constant-test.true c.constant-item.is c.loop-constant.invariant c.in_ok-push_constant.ensures
