use Rattle.urp_model.proofs.TableLaws.{means_nothing, means_next}
use Rattle.urp_model.proofs.slot_laws.a_table_means_what_was_announced.Goals as goal

pub returns-clause-first : goal.returns-clause-first
returns-clause-first c = means_nothing

pub returns-clause-next : goal.returns-clause-next
returns-clause-next c = means_next
