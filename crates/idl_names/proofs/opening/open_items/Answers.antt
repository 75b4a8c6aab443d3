use Rattle.std.proofs.Common.{length, ◌≤◌, arith}
use Rattle.idl_names.proofs.CollectedLemmas.{kept_low}
use Rattle.idl_names.proofs.OpenLemmas.{numbers_none, next_of, all_of}
use Rattle.idl_trees.specs.Members.{item_of}
use Rattle.idl_names.proofs.opening.open_items.Goals as goal

pub loop-item-init : goal.loop-item-init
loop-item-init c = numbers_none c.args.paths.now c.args.numbers.now.items

pub open_value-requires : goal.open_value-requires
open_value-requires c = kept_low c.args.paths.now c.loop-item.paths c.args.owner c.loop-item.invariant.kept c.requires

pub loop-item-preserved : goal.loop-item-preserved
loop-item-preserved c =
    next_of item_of (λ i. i.name) c.args.paths.now c.loop-item.paths c.open_value.new.paths c.args.numbers.now.items c.loop-item.numbers.items c.open_value.new.numbers.items c.args.owner c.args.items.now
    c.loop-item.item-index c.item-item.result c.as_str.result.now c.requires c.loop-item-test.true c.item-item.is c.as_str.ensures c.loop-item.invariant c.in_ok-open_value.ensures

pub returns : goal.returns
returns c =
    let end : length c.args.items.now ≤ c.loop-item.item-index = omega (arith, c.loop-item-test.false) in
    all_of item_of (λ i. i.name) c.args.paths.now c.loop-item.paths c.args.numbers.now.items c.loop-item.numbers.items c.args.owner c.args.items.now c.loop-item.item-index end c.loop-item.invariant
