use Rattle.std.proofs.Common.{[], ◌≤◌, length, arith}
use Rattle.idl_check.proofs.EachLemmas.{least_of_all}
use Rattle.idl_check.specs.Broken.{broken_told}
use Rattle.idl_places.proofs.Steps.{joined_tells, told_behind}
use Rattle.registry_text_model.specs.Rules as rule
use Rattle.uno_entities.specs.Entities.{entities_of}
use Rattle.std.specs.List.{flat_map}
use Rattle.idl_check.proofs.each.wrong_target.Goals as goal

pub loop-meanings-preserved : goal.loop-meanings-preserved
loop-meanings-preserved g c =
    told_behind (flat_map (broken_told rule.singletons (entities_of c.args.entities.now))) (broken_told rule.singletons (entities_of c.args.entities.now)) (joined_tells (broken_told rule.singletons (entities_of c.args.entities.now))) g.M.Meanings.telling c.args.all.now c.loop-meanings.meanings-index c.meanings-item.result [] _ _
    c.loop-meanings-test.true c.meanings-item.is c.loop-meanings.invariant c.in_ok-add_wrong_targets.ensures

pub returns : goal.returns
returns g c =
    let end : length c.args.all.now ≤ c.loop-meanings.meanings-index = omega (arith, c.loop-meanings-test.false) in
    least_of_all (broken_told rule.singletons (entities_of c.args.entities.now)) g.M.Meanings.telling c.args.all.now c.loop-meanings.meanings-index _ _ c.least.result end c.as_slice.ensures.value c.loop-meanings.invariant c.least.ensures
