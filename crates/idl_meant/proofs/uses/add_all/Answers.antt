use Rattle.std.proofs.Common.{◌∙◌, ◌≤◌, ◌++◌, append-nil, ap, arith, length, map, sym}
use Rattle.std.proofs.lemmas.List.{take_all}
use Rattle.std.specs.List.{flat_map}
use Rattle.idl_meant.specs.Using.{entity_use, use_of}
use Rattle.idl_meant.proofs.UseLemmas.{each_added}
use Rattle.idl_names.specs.Used.{used_of}
use Rattle.idl_meant.proofs.uses.add_all.Goals as goal

pub loop-one-init : goal.loop-one-init
loop-one-init c = sym (append-nil (map use_of c.args.uses.now.items))

pub loop-one-preserved : goal.loop-one-preserved
loop-one-preserved c =
    each_added used_of (entity_use c.args.modules) c.args.used.now c.loop-one.one-index c.one-item.result _ _ _ c.loop-one-test.true c.one-item.is c.loop-one.invariant c.in_ok-add_use.ensures

pub returns : goal.returns
returns c =
    let end : length c.args.used.now ≤ c.loop-one.one-index = omega (arith, c.loop-one-test.false) in
    c.loop-one.invariant ∙ ap (λ us. map use_of c.args.uses.now.items ++ flat_map (entity_use c.args.modules) (map used_of us)) (take_all c.loop-one.one-index c.args.used.now end)
