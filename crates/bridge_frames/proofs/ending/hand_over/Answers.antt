use Rattle.std.proofs.Common.{map, ap, ◌∙◌}
use Rattle.behaviour.specs.Answers.{raised_of}
use Rattle.plan_model.specs.Frames.{frames_of}
use Rattle.plan_types.specs.Frames.{body_of}
use Rattle.bridge_model.specs.Handing.{gains_below, lets_go_frame}
use Rattle.bridge_setting.specs.Settings.{setting_of}
use Rattle.bridge_tables.specs.EndTables.{on_tables}
use Rattle.uno_values.specs.References.{ref_of}
use Rattle.bridge_frames.proofs.LastingLemmas.{of_after, stands_after}
use Rattle.bridge_frames.proofs.ending.hand_over.Goals as goal

pub let_frame_go-requires-clause-of : goal.let_frame_go-requires-clause-of
let_frame_go-requires-clause-of c =
    of_after (setting_of c.args.setting.now) (gains_below (frames_of c.args.tid.now c.args.stacks.now) (raised_of c.args.exception.now) c.args.tables.now.tables) c.args.tables.now c.gain_exception.new.tables
    c.in_default.ensures.gained c.requires.of

pub let_frame_go-requires-clause-stands : goal.let_frame_go-requires-clause-stands
let_frame_go-requires-clause-stands c =
    stands_after (gains_below (frames_of c.args.tid.now c.args.stacks.now) (raised_of c.args.exception.now) c.args.tables.now.tables) c.args.tables.now c.gain_exception.new.tables
    c.in_default.ensures.gained c.requires.stands

pub returns-clause-handed : goal.returns-clause-handed
returns-clause-handed c =
    c.let_frame_go.ensures ∙ ap (on_tables (lets_go_frame (setting_of c.args.setting.now) (body_of c.args.body.now) (map ref_of c.args.extra.now))) c.in_default.ensures.gained
