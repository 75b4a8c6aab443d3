use Rattle.std.proofs.Common.{◌∙◌, ◌≤◌, ap, arith, length}
use Rattle.std.proofs.lemmas.List.{take_all}
use Rattle.idl_meant.specs.Using.{numbered_from}
use Rattle.idl_meant.proofs.UseLemmas.{no_number, numbered_more}
use Rattle.idl_meant.proofs.uses.numbered.Goals as goal

pub loop-found-init : goal.loop-found-init
loop-found-init c = (c.new-places.ensures.items ∙ no_number c.args.uses.now, omega arith)

pub loop-found-preserved : goal.loop-found-preserved
loop-found-preserved c =
    let so_far = c.loop-found.invariant.1 in
    let next = c.in-Some.ensures.1 in (
      numbered_more c.args.uses.now c.loop-found.found-index c.found-item.result _ _ c.loop-found.number c.loop-found-test.true c.found-item.is c.loop-found.invariant.0 so_far c.in_ok-push.ensures.items,
      omega (arith, so_far, next),
    )

pub returns : goal.returns
returns c =
    let end : length c.args.uses.now ≤ c.loop-found.found-index = omega (arith, c.loop-found-test.false) in
    c.loop-found.invariant.0 ∙ ap (numbered_from 0) (take_all c.loop-found.found-index c.args.uses.now end)
