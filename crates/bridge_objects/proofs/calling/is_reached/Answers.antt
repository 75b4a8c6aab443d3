use Rattle.std.proofs.Common.{◌∙◌, sym}
use Rattle.uno_model.specs.Reaches.{is_base_of}
use Rattle.bridge_objects.proofs.NextFace.{next_passes, next_fails}
use Rattle.bridge_objects.proofs.calling.is_reached.Goals as goal

pub returns-then-is_base_of : goal.returns-then-is_base_of
returns-then-is_base_of c =
    next_passes (λ row. row.0) (is_base_of c.args.registry.now c.args.wanted.now) c.args.faces.now c.loop-place.place _ c.in-Some.ensures
    (sym c.is_base_of.ensures ∙ c.if-is_base_of.true)
    ∙ c.loop-place.invariant

pub loop-place-preserved : goal.loop-place-preserved
loop-place-preserved c =
    next_fails (λ row. row.0) (is_base_of c.args.registry.now c.args.wanted.now) c.args.faces.now c.loop-place.place _ c.in-Some.ensures
    (sym c.is_base_of.ensures ∙ c.if-is_base_of.false)
    ∙ c.loop-place.invariant
