use Rattle.std.proofs.Common.{sym, arith}
use Rattle.uno_model.specs.Functions.{declared_by}
use Rattle.uno_model.specs.Registry.{find_entity}
use Rattle.type_registry.proofs.SeekLemmas.{found_at, none_in}
use Rattle.type_registry.proofs.own.seek_owners.Goals as goal

pub returns-in-Found : goal.returns-in-Found
returns-in-Found c =
    sym (found_at (λ owner. declared_by owner (find_entity owner c.args.registry.now)) (λ n. n.now) c.args.owners.now c.loop-place.place c.loop-place.left c.args.number _ _
    c.loop-place-test.true c.loop-place.invariant c.in-Found.ensures)

pub returns : goal.returns
returns c =
    sym (none_in (λ owner. declared_by owner (find_entity owner c.args.registry.now)) (λ n. n.now) c.args.owners.now c.loop-place.place c.loop-place.left c.args.number
    (omega (arith, c.loop-place-test.false)) c.loop-place.invariant)
