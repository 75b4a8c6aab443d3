use Rattle.world_laws.proofs.MarkLaws.{each_marked, mark_finds, marks_rise}
use Rattle.world_laws.proofs.merging_laws.a_mark_finds_its_entry.Goals as goal

pub returns-clause-found : goal.returns-clause-found
returns-clause-found c = mark_finds

pub returns-clause-each : goal.returns-clause-each
returns-clause-each c = each_marked

pub returns-clause-rising : goal.returns-clause-rising
returns-clause-rising c = marks_rise
