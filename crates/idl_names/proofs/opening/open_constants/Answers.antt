use Rattle.std.proofs.Common.{length, ◌≤◌, arith}
use Rattle.idl_names.proofs.CollectedLemmas.{kept_low}
use Rattle.idl_names.proofs.OpenLemmas.{numbers_none, next_of, all_of}
use Rattle.idl_trees.specs.Members.{constant_of}
use Rattle.idl_names.proofs.opening.open_constants.Goals as goal

pub loop-constant-init : goal.loop-constant-init
loop-constant-init c = numbers_none c.args.paths.now c.args.numbers.now.items

pub open_value-requires : goal.open_value-requires
open_value-requires c = kept_low c.args.paths.now c.loop-constant.paths c.args.group c.loop-constant.invariant.kept c.requires

pub loop-constant-preserved : goal.loop-constant-preserved
loop-constant-preserved c =
    next_of constant_of (λ i. i.name) c.args.paths.now c.loop-constant.paths c.open_value.new.paths c.args.numbers.now.items c.loop-constant.numbers.items c.open_value.new.numbers.items c.args.group c.args.constants.now
    c.loop-constant.constant-index c.constant-item.result c.as_str.result.now c.requires c.loop-constant-test.true c.constant-item.is c.as_str.ensures c.loop-constant.invariant c.in_ok-open_value.ensures

pub returns : goal.returns
returns c =
    let end : length c.args.constants.now ≤ c.loop-constant.constant-index = omega (arith, c.loop-constant-test.false) in
    all_of constant_of (λ i. i.name) c.args.paths.now c.loop-constant.paths c.args.numbers.now.items c.loop-constant.numbers.items c.args.group c.args.constants.now c.loop-constant.constant-index end c.loop-constant.invariant
