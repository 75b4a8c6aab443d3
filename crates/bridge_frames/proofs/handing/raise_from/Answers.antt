use Rattle.std.proofs.Common.{ap, map, refl, sym, ◌∙◌}
use Rattle.behaviour.specs.Answers.{raised_of}
use Rattle.plan_model.specs.Frames.{frames_of}
use Rattle.plan_model.specs.Leaving.{leaving_frame}
use Rattle.plan_types.specs.Frames.{body_of}
use Rattle.uno_entities.specs.TypeNames.{kind_of}
use Rattle.uno_values.specs.References.{ref_of}
use Rattle.uno_values.specs.Values.{plain_of}
use Rattle.bridge_model.specs.References.{refs_of_answer}
use Rattle.bridge_setting.specs.Settings.{setting_of}
use Rattle.bridge_frames.proofs.HandingLemmas as handing
use Rattle.bridge_frames.proofs.handing.raise_from.Goals as goal

pub returns-clause-goes : goal.returns-clause-goes
returns-clause-goes c =
    handing.leaves_so (setting_of c.args.setting.now) c.args.tid.now (body_of c.args.body.now) (frames_of c.args.tid.now c.args.stacks.now) (map ref_of c.deref.result.now) (refs_of_answer (raised_of c.args.exception))
    (raised_of c.in_ok-left.left) (leaving_frame c.args.setting.now.registry c.args.tid.now (body_of c.args.body.now) (raised_of c.args.exception)) c.args.tables.now c.leave.new.tables c.leave.result
    (ap (map ref_of) c.deref.ensures.value ∙ c.in-Ok.ensures ∙ sym (handing.refs_raised (kind_of c.args.exception.kind) (plain_of c.args.exception.value)))
    (c.in_ok-left.ensures (body_of c.args.body.now) refl refl) c.leave.ensures.leaves
