use Rattle.std.proofs.Common.{◌∙◌, ap, length, sym}
use Rattle.std.proofs.lemmas.List.{length-map}
use Rattle.idl_trees.specs.Names.{place_of}
use Rattle.idl_joint_places.specs.Circles.{node_of, nodes_of}
use Rattle.idl_joint_places.proofs.LoopLemmas.{no_number, numbered_read}
use Rattle.idl_joint_places.proofs.circles.value_nodes.Goals as goal

pub loop-place-init : goal.loop-place-init
loop-place-init c = ap nodes_of c.new-nodes.ensures.items ∙ no_number

pub loop-place-preserved : goal.loop-place-preserved
loop-place-preserved c =
    numbered_read place_of c.args.places.now c.loop-place.place-index _ (nodes_of c.loop-place.nodes.items) (nodes_of c.add_next_node.new.nodes.items) (length c.loop-place.nodes.items)
    c.loop-place-test.true (sym (length-map c.loop-place.nodes.items node_of)) c.loop-place.invariant c.in_ok-add_next_node.ensures
