use Rattle.std.proofs.Common.{◌≡◌, ◌≤◌, arith, length, map, subst}
use Rattle.std.proofs.lemmas.List.{take_all}
use Rattle.idl_meant.specs.Owning.{entity_number}
use Rattle.idl_meant.proofs.LoopLemmas.{one_number_more}
use Rattle.idl_meant.proofs.owners.entity_numbers.Goals as goal

pub loop-declared-preserved : goal.loop-declared-preserved
loop-declared-preserved c =
    one_number_more entity_number c.args.all.now c.loop-declared.declared-index c.declared-item.result c.loop-declared.numbers.items c.push.new.self.items c.entity_number.result
    c.loop-declared-test.true c.declared-item.is c.loop-declared.invariant c.in_ok-push.ensures.items c.entity_number.ensures

pub returns : goal.returns
returns c =
    let end : length c.args.all.now ≤ c.loop-declared.declared-index = omega (arith, c.loop-declared-test.false) in
    subst (λ xs. c.loop-declared.numbers.items ≡ map entity_number xs) (take_all c.loop-declared.declared-index c.args.all.now end) c.loop-declared.invariant
