use Rattle.std.proofs.Common.{sym, rules}
use Rattle.registry_text_model.specs.Lines.{spaced}
use Rattle.reg_text.proofs.TextLemmas.{name_more, no_lines}
use Rattle.reg_text.proofs.line.push_names.Goals as goal

pub loop-name-init : goal.loop-name-init
loop-name-init c = sym (no_lines c.args.text.now.items)

pub loop-name-preserved : goal.loop-name-preserved
loop-name-preserved c =
    name_more c.args.names.now c.loop-name.name-index c.name-item.result _ _ _ (spaced c.args.word.now) c.loop-name-test.true c.name-item.is c.loop-name.invariant (search rules)
