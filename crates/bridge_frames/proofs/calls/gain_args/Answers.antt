use Rattle.std.proofs.Common.{ap, map, ◌∙◌}
use Rattle.table_model.specs.declared.holder.Holder.TheVariants as holder
use Rattle.uno_values.specs.References.{ref_of}
use Rattle.bridge_model.specs.References.{gains_all}
use Rattle.bridge_tables.specs.EndTables.{on_tables}
use Rattle.bridge_frames.proofs.CallLemmas.{at_ok}
use Rattle.bridge_frames.proofs.calls.gain_args.Goals as goal

pub returns-clause-gained : goal.returns-clause-gained
returns-clause-gained c =
    at_ok c.gain_all.result
    (λ is. is ∙ (λ i. on_tables (gains_all (holder.Frame (c.in_ok-number.ensures.is i)) ((ap (map ref_of) c.deref.ensures.value ∙ c.in_ok-references.ensures) i)) c.args.tables.now)) c.gain_all.ensures.gained
