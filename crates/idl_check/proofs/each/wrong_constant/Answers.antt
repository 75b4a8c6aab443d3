use Rattle.std.proofs.Common.{[], subst, sym, ◌≤◌, length, arith}
use Rattle.idl_check.proofs.EachLemmas.{as_many, least_of_all, told_at}
use Rattle.idl_check.specs.Broken.{broken_told, values_told}
use Rattle.idl_places.specs.Classes.{KeepsClasses}
use Rattle.idl_places.proofs.Steps.{joined_tells, told_behind}
use Rattle.registry_text_model.specs.Rules as rule
use Rattle.std.specs.List.{flat_map}
use Rattle.idl_check.proofs.each.wrong_constant.Goals as goal

pub bounds-values-number : goal.bounds-values-number
bounds-values-number g c =
    let same = as_many (λ v. v.now) values_told g.M.Meanings.telling c.args.values.now c.args.all.now c.requires.values in
    omega (arith, same, c.loop-number-test.true)

pub add_wrong_constants-requires-clause-values : goal.add_wrong_constants-requires-clause-values
add_wrong_constants-requires-clause-values g c =
    told_at (λ v. v.now) values_told g.M.Meanings.telling c.args.values.now c.args.all.now c.loop-number.number _ c.index-all-number.result c.requires.values c.loop-number-test.true c.index-all-number.is

pub add_wrong_constants-requires-clause-classes : goal.add_wrong_constants-requires-clause-classes
add_wrong_constants-requires-clause-classes g c =
    subst (λ m. KeepsClasses (g.M.Meanings.telling m).kept) (sym c.index-all-number.is) (c.requires.classes c.loop-number.number c.index-all-number.result c.loop-number-test.true)

pub loop-number-preserved : goal.loop-number-preserved
loop-number-preserved g c reg =
    told_behind (flat_map (broken_told rule.constant_values reg)) (broken_told rule.constant_values reg) (joined_tells (broken_told rule.constant_values reg)) g.M.Meanings.telling c.args.all.now c.loop-number.number c.index-all-number.result [] _ _
    c.loop-number-test.true c.index-all-number.is (c.loop-number.invariant reg) (c.in_ok-add_wrong_constants.ensures reg)

pub returns : goal.returns
returns g c reg =
    let end : length c.args.all.now ≤ c.loop-number.number = omega (arith, c.loop-number-test.false) in
    least_of_all (broken_told rule.constant_values reg) g.M.Meanings.telling c.args.all.now c.loop-number.number _ _ c.least.result end c.as_slice.ensures.value (c.loop-number.invariant reg) c.least.ensures
