use Rattle.idl_joint_places.proofs.LeastLaws.{ranked_is}
use Rattle.idl_joint_places.proofs.circles.least_place.Goals as goal

pub returns : goal.returns
returns c = ranked_is c.args.graph.now c.args.nodes.now c.in_ok-found.found c.place_found.result c.place_found.ensures c.in_ok-found.ensures
