use Rattle.std.proofs.Common.{sym, ◌∙◌}
use Rattle.bridge_world.proofs.ReferenceLemmas.{none_here, some_here}
use Rattle.bridge_world.proofs.references.+refs.Goals as goal

pub some_has_reference-returns-then-has_reference : goal.some_has_reference-returns-then-has_reference
some_has_reference-returns-then-has_reference t c =
    some_here c.args.values.now c.loop-value.value-index c.value-item.result c.loop-value-test.true c.value-item.is (sym c.if-has_reference.true ∙ c.has_reference.ensures)
    ∙ c.loop-value.invariant

pub some_has_reference-loop-value-preserved : goal.some_has_reference-loop-value-preserved
some_has_reference-loop-value-preserved t c =
    none_here c.args.values.now c.loop-value.value-index c.value-item.result c.loop-value-test.true c.value-item.is (sym c.if-has_reference.false ∙ c.has_reference.ensures)
    ∙ c.loop-value.invariant
