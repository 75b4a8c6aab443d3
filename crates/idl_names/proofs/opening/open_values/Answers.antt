use Rattle.std.proofs.Common.{length, ◌≤◌, arith, map, subst}
use Rattle.std.proofs.lemmas.List.{take_all}
use Rattle.idl_names.specs.Collected.{declared_of}
use Rattle.idl_names.specs.Opened.{Numbers, value_paths}
use Rattle.idl_names.proofs.OpenLemmas.{no_values, next_values, numbers_at}
use Rattle.idl_names.proofs.opening.open_values.Goals as goal

pub loop-declared-init : goal.loop-declared-init
loop-declared-init c = no_values c.args.paths.now c.args.numbers.now.items

pub open_values_of-requires : goal.open_values_of-requires
open_values_of-requires c =
    numbers_at c.args.paths.now c.loop-declared.paths c.declared-item.result c.args.all.now c.loop-declared.declared-index c.loop-declared.invariant.kept c.requires
    c.loop-declared-test.true c.declared-item.is

pub loop-declared-preserved : goal.loop-declared-preserved
loop-declared-preserved c =
    next_values c.args.paths.now c.loop-declared.paths c.open_values_of.new.paths c.args.numbers.now.items c.loop-declared.numbers.items c.open_values_of.new.numbers.items c.args.all.now
    c.loop-declared.declared-index c.declared-item.result c.requires c.loop-declared-test.true c.declared-item.is c.loop-declared.invariant c.in_ok-open_values_of.ensures

pub returns : goal.returns
returns c =
    let end : length c.args.all.now ≤ c.loop-declared.declared-index = omega (arith, c.loop-declared-test.false) in
    subst (λ ds. Numbers c.args.paths.now c.args.numbers.now.items (value_paths (map (declared_of c.args.paths.now) ds)) c.loop-declared.paths c.loop-declared.numbers.items)
    (take_all c.loop-declared.declared-index c.args.all.now end) c.loop-declared.invariant
