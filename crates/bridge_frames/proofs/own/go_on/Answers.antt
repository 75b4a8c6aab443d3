use Rattle.std.proofs.Common.{add-one, ap, ◌∙◌}
use Rattle.plan_model.specs.Frames as plain
use Rattle.plan_model.specs.Frames.{with_top}
use Rattle.plan_model.specs.Holdings.{goes_on}
use Rattle.plan_types.specs.Frames.{body_of}
use Rattle.bridge_frames.proofs.own.go_on.Goals as goal

pub returns : goal.returns
unfolding goes_on
returns c = c.put_method.ensures ∙ ap (λ place. with_top c.args.tid.now (plain.body (record (body_of c.args.body) { place = place })) c.args.stacks.now) (add-one c.args.body.place)
