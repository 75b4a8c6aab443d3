use Rattle.std.proofs.Common.{◌∙◌, ap, sym}
use Rattle.uno_values.specs.References.{ref_of}
use Rattle.bridge_objects.specs.Tables.{lost}
use Rattle.bridge_objects.proofs.Gaining.{lost_next, none_lost}
use Rattle.bridge_objects.proofs.objects.Objects.lose_all.Goals as goal

pub loop-place-init : goal.loop-place-init
loop-place-init c = sym (none_lost c.args.holder c.args.self.now)

pub loop-place-preserved : goal.loop-place-preserved
loop-place-preserved c =
    c.lose.ensures ∙ ap (lost c.args.holder (ref_of c.index-references-place.result)) c.loop-place.invariant
    ∙ sym (lost_next ref_of c.args.holder c.args.references.now c.loop-place.place c.index-references-place.result c.loop-place-test.true c.index-references-place.is c.args.self.now)
