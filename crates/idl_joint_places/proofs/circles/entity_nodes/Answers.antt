use Rattle.std.proofs.Common.{[], sym}
use Rattle.std.specs.List.{filter_map}
use Rattle.std.specs.Option.{option_to_list}
use Rattle.uno_entities.specs.Entities.{entities_of}
use Rattle.idl_meaning_model.proofs.EachLaws.{each_at}
use Rattle.idl_names.specs.Collected.{HasNumbers, declared_of}
use Rattle.idl_places.proofs.Steps.{told_behind}
use Rattle.idl_joint_places.specs.Circles.{node_there}
use Rattle.idl_joint_places.proofs.LoopLemmas.{picked_tells}
use Rattle.idl_joint_places.proofs.circles.entity_nodes.Goals as goal

pub add_entity_node-requires-clause-numbers : goal.add_entity_node-requires-clause-numbers
add_entity_node-requires-clause-numbers c =
    each_at (HasNumbers c.args.paths.now) c.args.all.now c.declared-item.result c.requires.numbers (c.loop-declared.declared-index, c.loop-declared-test.true, sym c.declared-item.is)

pub loop-declared-preserved : goal.loop-declared-preserved
loop-declared-preserved c =
    let node = node_there (entities_of c.args.entities.now) in
    told_behind (filter_map node) (λ d. option_to_list (node d)) (picked_tells node) (declared_of c.args.paths.now) c.args.all.now c.loop-declared.declared-index c.declared-item.result [] _ _
    c.loop-declared-test.true c.declared-item.is c.loop-declared.invariant c.in_ok-add_entity_node.ensures
