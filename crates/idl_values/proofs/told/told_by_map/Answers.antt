use Rattle.std.proofs.Common.{◌≡◌, ◌≤◌, ◌∙◌, arith, get_or, length, subst}
use Rattle.std.proofs.lemmas.List.{get_or_default, take_all}
use Rattle.idl_values.specs.Told.{mapped_at, number_told}
use Rattle.idl_values.proofs.LoopLemmas.{next_told, nothing_told, number_nowhere}
use Rattle.idl_values.proofs.told.told_by_map.Goals as goal

pub loop-name-init : goal.loop-name-init
loop-name-init c = λ p. number_nowhere c.new-numbers.result c.new-numbers.ensures.empty p ∙ nothing_told p

pub loop-name-preserved : goal.loop-name-preserved
loop-name-preserved c = λ p.
    let x = get_or c.args.names.now c.loop-name.name-index (record { file = 0; byte = 0 }, 0) in
    next_told c.args.names.now c.loop-name.name-index x (mapped_at c.loop-name.numbers p) (mapped_at c.note.new.numbers p) p
    c.loop-name-test.true (get_or_default c.args.names.now c.loop-name.name-index (record { file = 0; byte = 0 }, 0) x c.loop-name-test.true) (c.loop-name.invariant p) (c.in_ok-note.ensures p)

pub returns : goal.returns
returns c = λ p.
    let end : length c.args.names.now ≤ c.loop-name.name-index = omega (arith, c.loop-name-test.false) in
    subst (λ xs. mapped_at c.loop-name.numbers p ≡ number_told xs p) (take_all c.loop-name.name-index c.args.names.now end) (c.loop-name.invariant p)
