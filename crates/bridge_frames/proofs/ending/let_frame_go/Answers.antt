use Rattle.std.proofs.Common.{map, ap, ◌∙◌}
use Rattle.table_model.specs.declared.holder.Holder.TheVariants as holder
use Rattle.bridge_model.specs.References.{lets_go_all}
use Rattle.bridge_setting.specs.Settings.{setting_of}
use Rattle.bridge_tables.specs.EndTables.{on_tables}
use Rattle.plan_model.specs.Holdings.{refs_under}
use Rattle.plan_types.specs.Frames.{body_of, variables_of}
use Rattle.uno_values.specs.References.{ref_of}
use Rattle.bridge_frames.proofs.EndingLemmas.{frame_gone}
use Rattle.bridge_frames.proofs.ending.let_frame_go.Goals as goal

pub returns : goal.returns
returns c =
    frame_gone (setting_of c.args.setting.now) (body_of c.args.body.now) (map ref_of c.args.extra.now) (ref_of c.args.own.now) c.args.tables.now c.let_go_all.new.self c.let_variables_go.new.tables c.let_go.new.self
    c.requires.own c.let_go_all.ensures
    (c.let_variables_go.ensures
    ∙ ap (λ xs. on_tables (lets_go_all (setting_of c.args.setting.now) (holder.Frame c.args.body.now.number) (refs_under (variables_of xs))) c.let_go_all.new.self) c.deref.ensures.value) c.let_go.ensures
