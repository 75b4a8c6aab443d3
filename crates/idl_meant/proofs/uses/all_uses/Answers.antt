use Rattle.std.proofs.Common.{◌∙◌, ◌≤◌, ap, arith, length, map}
use Rattle.std.proofs.lemmas.List.{take_all}
use Rattle.std.specs.List.{flat_map}
use Rattle.idl_meant.specs.Using.{entity_uses, use_of}
use Rattle.idl_meant.proofs.UseLemmas.{all_added}
use Rattle.idl_meant.proofs.uses.all_uses.Goals as goal

pub loop-declared-init : goal.loop-declared-init
loop-declared-init c = ap (map use_of) c.new-uses.ensures.items

pub loop-declared-preserved : goal.loop-declared-preserved
loop-declared-preserved c =
    all_added c.args.all.now c.loop-declared.declared-index c.declared-item.result _ _ c.loop-declared-test.true c.declared-item.is c.loop-declared.invariant c.in_ok-add_uses.ensures

pub returns : goal.returns
returns c =
    let end : length c.args.all.now ≤ c.loop-declared.declared-index = omega (arith, c.loop-declared-test.false) in
    c.loop-declared.invariant ∙ ap (flat_map entity_uses) (take_all c.loop-declared.declared-index c.args.all.now end)
