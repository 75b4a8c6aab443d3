use Rattle.std.proofs.Common.{sym}
use Rattle.uno_entities.specs.Entities.{constructor_of}
use Rattle.registry_text_model.specs.Lines.{constructor_lines}
use Rattle.reg_text.proofs.TextLemmas.{each_more, no_lines}
use Rattle.reg_text.proofs.parts.push_constructors.Goals as goal

pub loop-constructor-init : goal.loop-constructor-init
loop-constructor-init c = sym (no_lines c.args.text.now.items)

pub loop-constructor-preserved : goal.loop-constructor-preserved
loop-constructor-preserved c = each_more c.args.constructors.now c.loop-constructor.constructor-index c.constructor-item.result _ _ _ constructor_of constructor_lines c.loop-constructor-test.true c.constructor-item.is c.loop-constructor.invariant c.in_ok-push_constructor.ensures
