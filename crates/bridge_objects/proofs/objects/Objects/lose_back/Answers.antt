use Rattle.std.proofs.Common.{◌≡◌, ◌∙◌, ◌+◌, ◌-◌, ap, arith, map, take}
use Rattle.uno_values.specs.References.{ref_of}
use Rattle.bridge_objects.specs.Tables.{gained_all}
use Rattle.bridge_objects.proofs.Gaining.{lost_again, none_gained}
use Rattle.bridge_objects.proofs.objects.Objects.lose_back.Goals as goal

pub loop-place-preserved : goal.loop-place-preserved
loop-place-preserved c = λ k held.
    let some = c.loop-place-test.true in
    let most = c.loop-place.auto.place in
    let few = c.requires in
    let next : c.loop-place.place ≡ (c.loop-place.place - 1) + 1 = omega (arith, some) in
    lost_again ref_of c.args.holder c.args.references.now (c.loop-place.place - 1) c.index-references-place.result (omega (arith, some, most, few)) c.index-references-place.is k c.loop-place.self c.lose.new.self
    (c.loop-place.invariant k held ∙ ap (λ n. gained_all c.args.holder (map ref_of (take n c.args.references.now)) k) next) c.lose.ensures

pub returns : goal.returns
returns c = λ k held.
    let none = c.loop-place-test.false in
    let zero : c.loop-place.place ≡ 0 = omega (arith, none) in
    c.loop-place.invariant k held ∙ ap (λ n. gained_all c.args.holder (map ref_of (take n c.args.references.now)) k) zero ∙ none_gained c.args.holder k
