use Rattle.std.proofs.Common.{◌≤◌, arith, get_or, length, subst}
use Rattle.std.proofs.lemmas.List.{get_or_default, take_all}
use Rattle.idl_values.specs.Keys.{AreKeys}
use Rattle.idl_values.proofs.KeyLemmas.{next_key, no_keys}
use Rattle.idl_values.proofs.keyed.keys_of.Goals as goal

pub loop-name-init : goal.loop-name-init
loop-name-init c = no_keys c.in_ok-keys.keys.items c.in_ok-keys.ensures.items

pub loop-name-preserved : goal.loop-name-preserved
loop-name-preserved c =
    let x = get_or c.args.names.now c.loop-name.name-index (record { file = 0; byte = 0 }, 0) in
    next_key c.args.names.now c.loop-name.name-index x c.loop-name.keys.items c.push.new.self.items c.key_of.result
    c.loop-name-test.true (get_or_default c.args.names.now c.loop-name.name-index (record { file = 0; byte = 0 }, 0) x c.loop-name-test.true) c.loop-name.invariant c.in_ok-push.ensures.items c.key_of.ensures

pub returns : goal.returns
returns c =
    let end : length c.args.names.now ≤ c.loop-name.name-index = omega (arith, c.loop-name-test.false) in
    subst (λ xs. AreKeys xs c.loop-name.keys.items) (take_all c.loop-name.name-index c.args.names.now end) c.loop-name.invariant
