use Rattle.std.proofs.Common.{◌-◌, arith, rules}
use Rattle.uno_types.proofs.TypeTextLemmas.{no_level, nothing_behind, no_element, when_read}
use Rattle.uno_types.proofs.types.+within_levels.Goals as goal

pub returns-in_default : goal.returns-in_default
returns-in_default t c =
    when_read c.args.registry.now c.args.text.now c.args.levels c.word_named.result (search rules) c.in_default.ensures c.word_named.ensures

pub returns-then-levels-eq0 : goal.returns-then-levels-eq0
returns-then-levels-eq0 t c =
    no_level c.args.registry.now c.args.text.now c.in-Some.behind.now c.args.levels (search rules) c.in-Some.ensures c.if-levels-eq0.true

pub returns-in_default-2 : goal.returns-in_default-2
returns-in_default-2 t c =
    nothing_behind c.args.registry.now c.args.text.now c.in-Some.behind.now c.args.levels (search rules) c.in-Some.ensures
    (omega (arith, c.if-levels-eq0.false)) (rw c.in_default-2.is at c.in_ok-inner.ensures)

pub returns-then-not-is_storable : goal.returns-then-not-is_storable
returns-then-not-is_storable t c =
    no_element c.args.registry.now c.args.text.now c.in-Some.behind.now c.args.levels (c.args.levels - 1) c.in-Some-2.inner c.is_storable.result (search rules)
    c.in-Some.ensures (rw c.in-Some-2.is at c.in_ok-inner.ensures) c.is_storable.ensures
    c.if-not-is_storable.true
