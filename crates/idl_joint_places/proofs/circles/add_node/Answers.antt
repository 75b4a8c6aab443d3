use Rattle.circle_ranks.specs.declared.node.Node.{Node}
use Rattle.idl_trees.specs.Names.{place_of}
use Rattle.idl_joint_places.proofs.LeastLaws.{node_added}
use Rattle.idl_joint_places.proofs.circles.add_node.Goals as goal

pub returns : goal.returns
returns c =
    let node : Node = record { number = c.in-Ok.small; rank = c.rank_of-rank.result } in
    node_added c.args.nodes.now.items c.push.new.self.items node c.args.number (place_of c.args.place) c.in_ok-push.ensures.items c.in-Ok.ensures.1 c.rank_of-rank.ensures
