use Rattle.world_laws.proofs.Histories.{object_a, object_b}
use Rattle.world_laws.proofs.keeping_laws.while_both_stand_what_is_held_has_its_object.Goals as goal

pub returns-clause-a : goal.returns-clause-a
returns-clause-a c = object_a

pub returns-clause-b : goal.returns-clause-b
returns-clause-b c = object_b
