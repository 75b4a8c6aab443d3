use Rattle.world_laws.proofs.MergeLaws.{more_of_a, more_of_b, none_merged}
use Rattle.world_laws.proofs.merging_laws.an_entry_with_the_next_mark_stands_behind_all.Goals as goal

pub returns-clause-none : goal.returns-clause-none
returns-clause-none c = none_merged

pub returns-clause-a : goal.returns-clause-a
returns-clause-a c = more_of_a

pub returns-clause-b : goal.returns-clause-b
returns-clause-b c = more_of_b
