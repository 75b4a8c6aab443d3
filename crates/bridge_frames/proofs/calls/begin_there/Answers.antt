use Rattle.std.proofs.Common.{ap, map, ◌∙◌}
use Rattle.table_model.specs.declared.holder.Holder.TheVariants as holder
use Rattle.uno_values.specs.Values.{plain_of}
use Rattle.plan_model.specs.Frames.{frames_of}
use Rattle.bridge_model.specs.References.{takes_all, refs_of_values}
use Rattle.bridge_setting.specs.Settings.{setting_of}
use Rattle.bridge_tables.specs.EndTables.{on_tables}
use Rattle.bridge_frames.proofs.CallLemmas.{begun_there, lasting_all_taken, lost_behind, stacks_behind, tables_behind}
use Rattle.bridge_frames.proofs.calls.begin_there.Goals as goal

pub returns-clause-stacks : goal.returns-clause-stacks
returns-clause-stacks c =
    stacks_behind c.begin.result c.args.call.tid.now _ _ c.args.stacks.now c.begin.new.stacks
    (begun_there (setting_of c.args.setting.now) c.args.call.oid c.args.call.face c.args.call.function (map plain_of c.args.args.items) (frames_of c.args.call.tid.now c.args.stacks.now)
    c.args.tables.now c.take_args.new.tables (c.in_default.ensures.taken ∙ ap (λ xs. on_tables (λ t. takes_all (setting_of c.args.setting.now) (holder.Frame t.frames_made) (refs_of_values (map plain_of xs)) t) c.args.tables.now) c.deref.ensures.value)) c.begin.ensures.stacks

pub returns-clause-tables : goal.returns-clause-tables
returns-clause-tables c =
    tables_behind c.begin.result _ _ (takes_all (setting_of c.args.setting.now) (holder.Frame c.args.tables.now.tables.frames_made) (refs_of_values (map plain_of c.args.args.items)) c.args.tables.now.tables) c.args.tables.now c.take_args.new.tables c.begin.new.tables
    (begun_there (setting_of c.args.setting.now) c.args.call.oid c.args.call.face c.args.call.function (map plain_of c.args.args.items) (frames_of c.args.call.tid.now c.args.stacks.now)
    c.args.tables.now c.take_args.new.tables (c.in_default.ensures.taken ∙ ap (λ xs. on_tables (λ t. takes_all (setting_of c.args.setting.now) (holder.Frame t.frames_made) (refs_of_values (map plain_of xs)) t) c.args.tables.now) c.deref.ensures.value)) (c.in_default.ensures.taken ∙ ap (λ xs. on_tables (λ t. takes_all (setting_of c.args.setting.now) (holder.Frame t.frames_made) (refs_of_values (map plain_of xs)) t) c.args.tables.now) c.deref.ensures.value) c.begin.ensures.tables

pub returns-clause-lost : goal.returns-clause-lost
returns-clause-lost c =
    lost_behind c.begin.result c.args.tables.now c.take_args.new.tables c.begin.new.tables
    (lasting_all_taken c.args.tables.now.tables.frames_made (setting_of c.args.setting.now) (refs_of_values (map plain_of c.args.args.items)) c.args.tables.now c.take_args.new.tables (c.in_default.ensures.taken ∙ ap (λ xs. on_tables (λ t. takes_all (setting_of c.args.setting.now) (holder.Frame t.frames_made) (refs_of_values (map plain_of xs)) t) c.args.tables.now) c.deref.ensures.value)) c.begin.ensures.lost
