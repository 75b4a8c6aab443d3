use Rattle.std.proofs.Common.{[], subst, sym, ◌≤◌, length, arith}
use Rattle.idl_check.proofs.EachLemmas.{least_of_all}
use Rattle.idl_check.specs.Broken.{broken_told}
use Rattle.idl_places.specs.Classes.{KeepsClasses}
use Rattle.idl_places.proofs.Steps.{joined_tells, told_behind}
use Rattle.registry_text_model.specs.Rules as rule
use Rattle.std.specs.List.{flat_map}
use Rattle.idl_check.proofs.each.giving_one_way.Goals as goal

pub add_giving_one_way-requires : goal.add_giving_one_way-requires
add_giving_one_way-requires g c = record {
  classes = subst (λ m. KeepsClasses (g.M.Meanings.telling m).kept) (sym c.meanings-item.is) (c.requires.classes c.loop-meanings.meanings-index c.meanings-item.result c.loop-meanings-test.true);
}

pub loop-meanings-preserved : goal.loop-meanings-preserved
loop-meanings-preserved g c reg =
    told_behind (flat_map (broken_told rule.one_way reg)) (broken_told rule.one_way reg) (joined_tells (broken_told rule.one_way reg)) g.M.Meanings.telling c.args.all.now c.loop-meanings.meanings-index c.meanings-item.result [] _ _
    c.loop-meanings-test.true c.meanings-item.is (c.loop-meanings.invariant reg) (c.in_ok-add_giving_one_way.ensures reg)

pub returns : goal.returns
returns g c reg =
    let end : length c.args.all.now ≤ c.loop-meanings.meanings-index = omega (arith, c.loop-meanings-test.false) in
    least_of_all (broken_told rule.one_way reg) g.M.Meanings.telling c.args.all.now c.loop-meanings.meanings-index _ _ c.least.result end c.as_slice.ensures.value (c.loop-meanings.invariant reg) c.least.ensures
