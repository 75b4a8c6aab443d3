use Rattle.std.proofs.Common.{◌≡◌, ◌≤◌, arith, get_or, length, subst, true}
use Rattle.std.proofs.lemmas.List.{get_or_default, take_all}
use Rattle.idl_values.specs.Keys.{do_rise}
use Rattle.idl_values.proofs.KeyLemmas.{next_rises, none_rise}
use Rattle.idl_values.proofs.keyed.do_rise.Goals as goal

pub loop-key-init : goal.loop-key-init
loop-key-init c = none_rise

pub loop-key-preserved : goal.loop-key-preserved
loop-key-preserved c =
    let key = get_or c.args.keys.now c.loop-key.key-index 0 in
    next_rises c.args.keys.now c.loop-key.key-index key c.loop-key.low c.loop-key-test.true (get_or_default c.args.keys.now c.loop-key.key-index 0 key c.loop-key-test.true) c.loop-key.invariant c.if-key-low.false

pub returns : goal.returns
returns c = λ is.
    let end : length c.args.keys.now ≤ c.loop-key.key-index = omega (arith, c.loop-key-test.false) in
    subst (λ xs. do_rise xs ≡ true) (take_all c.loop-key.key-index c.args.keys.now end) c.loop-key.invariant.0
