use Rattle.std.proofs.Common.{ap, map, ◌∙◌}
use Rattle.uno_values.specs.References.{ref_of}
use Rattle.bridge_model.specs.References.{gains_all}
use Rattle.bridge_tables.specs.EndTables.{on_tables}
use Rattle.bridge_frames.proofs.CallLemmas.{at_ok}
use Rattle.bridge_frames.proofs.own.gain_value.Goals as goal

pub returns-clause-gained : goal.returns-clause-gained
returns-clause-gained c =
    at_ok c.gain_all.result (λ is. is ∙ ap (λ rs. on_tables (gains_all c.args.holder rs) c.args.tables.now) (ap (map ref_of) c.deref.ensures.value ∙ c.in_ok-references.ensures)) c.gain_all.ensures.gained
