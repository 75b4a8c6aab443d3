use Rattle.std.proofs.Common.{sym}
use Rattle.uno_entities.specs.Entities.{base_of}
use Rattle.registry_text_model.specs.Lines.{base_line}
use Rattle.reg_text.proofs.TextLemmas.{line_more, no_lines}
use Rattle.reg_text.proofs.members.push_bases.Goals as goal

pub loop-base-init : goal.loop-base-init
loop-base-init c = sym (no_lines c.args.text.now.items)

pub loop-base-preserved : goal.loop-base-preserved
loop-base-preserved c = line_more c.args.bases.now c.loop-base.base-index c.base-item.result _ _ _ base_of base_line c.loop-base-test.true c.base-item.is c.loop-base.invariant c.in_ok-push_base.ensures
