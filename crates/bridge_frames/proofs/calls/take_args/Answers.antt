use Rattle.std.proofs.Common.{ap, map, ◌∙◌}
use Rattle.table_model.specs.declared.holder.Holder.TheVariants as holder
use Rattle.uno_values.specs.References.{ref_of}
use Rattle.bridge_model.specs.References.{takes_all}
use Rattle.bridge_setting.specs.Settings.{setting_of}
use Rattle.bridge_tables.specs.EndTables.{on_tables}
use Rattle.bridge_frames.proofs.CallLemmas.{at_ok}
use Rattle.bridge_frames.proofs.calls.take_args.Goals as goal

pub returns-clause-taken : goal.returns-clause-taken
returns-clause-taken c =
    at_ok c.take_all.result
    (λ is. is ∙ (λ i. on_tables (takes_all (setting_of c.args.setting.now) (holder.Frame (c.in_ok-number.ensures.is i)) ((ap (map ref_of) c.deref.ensures.value ∙ c.in_ok-references.ensures) i)) c.args.tables.now)) c.take_all.ensures.taken
