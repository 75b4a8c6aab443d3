use Rattle.std.proofs.Common.{map}
use Rattle.uno_entities.specs.Entities.{entities_of}
use Rattle.idl_names.specs.Collected.{declared_of}
use Rattle.idl_joint_places.proofs.CircleLaws.{no_entity}
use Rattle.idl_joint_places.proofs.circles.entity_on_circle.Goals as goal

pub least_entity-requires-clause-graph : goal.least_entity-requires-clause-graph
least_entity-requires-clause-graph c = c.in_ok-graph.ensures

pub returns-then-free : goal.returns-then-free
returns-then-free c =
    no_entity (entities_of c.args.entities.now) c.requires.rising c.in_ok-graph.graph c.in_ok-graph.ensures (c.in_ok-free.ensures.0 c.if-free.true) (map (declared_of c.args.paths.now) c.args.all.now)
