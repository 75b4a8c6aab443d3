use Rattle.urp_model.proofs.AnnouncedLaws.{all_mean_nothing, value_follows}
use Rattle.urp_model.proofs.slot_laws.tables_mean_what_a_value_announces.Goals as goal

pub returns-clause-first : goal.returns-clause-first
returns-clause-first c = all_mean_nothing

pub returns-clause-next : goal.returns-clause-next
returns-clause-next c = value_follows
