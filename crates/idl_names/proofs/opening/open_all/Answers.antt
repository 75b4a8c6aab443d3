use Rattle.std.proofs.Common.{length, ◌≤◌, arith}
use Rattle.idl_names.proofs.OpenLemmas.{opens_none, opens_read, opens_all, opens_low}
use Rattle.idl_names.proofs.opening.open_all.Goals as goal

pub loop-name-init : goal.loop-name-init
loop-name-init c = opens_none c.args.paths.now c.requires

pub open-requires : goal.open-requires
open-requires c = opens_low c.loop-name.invariant

pub loop-name-preserved : goal.loop-name-preserved
loop-name-preserved c =
    opens_read c.args.paths.now c.loop-name.paths c.open.new.self c.args.names.now c.loop-name.name-index _ c.loop-name.number c.in_ok-number.number
    c.loop-name-test.true c.loop-name.invariant c.in_ok-number.ensures.opened c.in_ok-number.ensures.number

pub returns : goal.returns
returns c =
    let end : length c.args.names.now ≤ c.loop-name.name-index = omega (arith, c.loop-name-test.false) in
    opens_all c.args.paths.now c.loop-name.paths c.args.names.now c.loop-name.name-index c.loop-name.number c.args.numbers.now.items c.push.new.self.items end c.loop-name.invariant
    c.in_ok-push.ensures.items
