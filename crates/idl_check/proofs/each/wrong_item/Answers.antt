use Rattle.std.proofs.Common.{[], ◌≤◌, length, arith}
use Rattle.idl_check.proofs.EachLemmas.{as_many, least_of_all, told_at}
use Rattle.idl_check.specs.Broken.{broken_told, values_told}
use Rattle.idl_places.proofs.Steps.{joined_tells, told_behind}
use Rattle.registry_text_model.specs.Rules as rule
use Rattle.std.specs.List.{flat_map}
use Rattle.idl_check.proofs.each.wrong_item.Goals as goal

pub bounds-values-number : goal.bounds-values-number
bounds-values-number g c =
    let same = as_many (λ v. v.now) values_told g.M.Meanings.telling c.args.values.now c.args.all.now c.requires.values in
    omega (arith, same, c.loop-number-test.true)

pub add_wrong_items-requires : goal.add_wrong_items-requires
add_wrong_items-requires g c =
    record {
      values =
          told_at (λ v. v.now) values_told g.M.Meanings.telling c.args.values.now c.args.all.now c.loop-number.number _ c.index-all-number.result c.requires.values c.loop-number-test.true c.index-all-number.is;
    }

pub loop-number-preserved : goal.loop-number-preserved
loop-number-preserved g c reg =
    told_behind (flat_map (broken_told rule.values reg)) (broken_told rule.values reg) (joined_tells (broken_told rule.values reg)) g.M.Meanings.telling c.args.all.now c.loop-number.number c.index-all-number.result [] _ _
    c.loop-number-test.true c.index-all-number.is (c.loop-number.invariant reg) (c.in_ok-add_wrong_items.ensures reg)

pub returns : goal.returns
returns g c reg =
    let end : length c.args.all.now ≤ c.loop-number.number = omega (arith, c.loop-number-test.false) in
    least_of_all (broken_told rule.values reg) g.M.Meanings.telling c.args.all.now c.loop-number.number _ _ c.least.result end c.as_slice.ensures.value (c.loop-number.invariant reg) c.least.ensures
