use Rattle.std.proofs.Common.{sym}
use Rattle.uno_entities.specs.Entities.{part_of}
use Rattle.registry_text_model.specs.Lines.{part_line}
use Rattle.reg_text.proofs.TextLemmas.{line_more, no_lines}
use Rattle.reg_text.proofs.properties.push_parts.Goals as goal

pub loop-part-init : goal.loop-part-init
loop-part-init c = sym (no_lines c.args.text.now.items)

pub loop-part-preserved : goal.loop-part-preserved
loop-part-preserved c = line_more c.args.parts.now c.loop-part.part-index c.part-item.result _ _ _ part_of part_line c.loop-part-test.true c.part-item.is c.loop-part.invariant c.in_ok-push_part.ensures
