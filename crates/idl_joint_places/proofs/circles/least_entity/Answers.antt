use Rattle.std.proofs.Common.{◌∙◌, ap, map}
use Rattle.std.proofs.lemmas.Result.{IfOk-weaker}
use Rattle.uno_entities.specs.Entities.{entities_of}
use Rattle.idl_names.specs.Collected.{declared_of}
use Rattle.idl_joint_places.specs.Circles.{nodes_of}
use Rattle.idl_joint_places.proofs.CircleLaws.{entity_found}
use Rattle.idl_joint_places.proofs.circles.least_entity.Goals as goal

pub returns : goal.returns
returns c =
    IfOk-weaker c.least_place.result _ _
    (λ found ranked. entity_found (entities_of c.args.entities.now) c.requires.rising (map (declared_of c.args.paths.now) c.args.all.now) c.as_slice.result.now c.args.graph.now found
    c.requires.graph (ap nodes_of c.as_slice.ensures.value ∙ c.in_ok-nodes.ensures) ranked) c.least_place.ensures
