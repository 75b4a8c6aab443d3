use Rattle.std.proofs.Common.{[], ap, ◌∙◌}
use Rattle.plan_types.specs.Frames.{body_of}
use Rattle.bridge_model.specs.Handing.{lets_go_frame}
use Rattle.bridge_setting.specs.Settings.{setting_of}
use Rattle.bridge_tables.specs.EndTables.{on_tables}
use Rattle.bridge_frames.proofs.handing.hand_result.Goals as goal

pub returns-clause-stacks : goal.returns-clause-stacks
returns-clause-stacks c = c.in_default-give.ensures.stacks

pub returns-clause-none : goal.returns-clause-none
returns-clause-none c = c.in_default-give.ensures.none

pub returns-clause-tables : goal.returns-clause-tables
returns-clause-tables c = c.let_frame_go.ensures ∙ ap (on_tables (lets_go_frame (setting_of c.args.setting.now) (body_of c.args.body.now) [])) c.in_default-give.ensures.tables
