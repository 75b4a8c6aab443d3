use Rattle.std.proofs.Common.{◌≤◌, length, arith}
use Rattle.idl_joint_places.proofs.ThereLemmas.{path_low}
use Rattle.idl_names.specs.Collected.{HasNumbers}
use Rattle.idl_repeated_names.proofs.OwnerLemmas.{all_named, at_index, named_more, none_named}
use Rattle.idl_repeated_names.proofs.owners.named.Goals as goal

pub loop-declared-init : goal.loop-declared-init
loop-declared-init c = none_named c.args.paths.now c.new-entries.result.items c.new-entries.ensures.items

pub full_name-requires : goal.full_name-requires
full_name-requires c =
    path_low c.args.paths.now c.declared-item.result
    (at_index (HasNumbers c.args.paths.now) c.args.all.now c.loop-declared.declared-index c.declared-item.result c.loop-declared-test.true c.declared-item.is c.requires)

pub loop-declared-preserved : goal.loop-declared-preserved
loop-declared-preserved c =
    named_more c.args.paths.now c.args.all.now c.loop-declared.declared-index c.declared-item.result c.loop-declared.entries.items c.push.new.self.items c.in_ok-name.name
    c.loop-declared-test.true c.declared-item.is
    (at_index (HasNumbers c.args.paths.now) c.args.all.now c.loop-declared.declared-index c.declared-item.result c.loop-declared-test.true c.declared-item.is c.requires)
    c.in_ok-name.ensures c.loop-declared.invariant c.in_ok-push.ensures.items

pub returns : goal.returns
returns c =
    let end : length c.args.all.now ≤ c.loop-declared.declared-index = omega (arith, c.loop-declared-test.false) in
    all_named c.args.paths.now c.args.all.now c.loop-declared.declared-index c.loop-declared.entries.items end c.loop-declared.invariant
