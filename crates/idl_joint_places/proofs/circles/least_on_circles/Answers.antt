use Rattle.std.proofs.Common.{map}
use Rattle.std.specs.List.{flat_map}
use Rattle.uno_entities.specs.Entities.{entities_of}
use Rattle.idl_meaning_model.specs.Declarations.{all_valued}
use Rattle.idl_names.specs.Collected.{declared_of}
use Rattle.idl_joint_places.specs.Circles.{entity_circle, value_circle}
use Rattle.idl_joint_places.proofs.CircleLaws.{both_found}
use Rattle.idl_joint_places.proofs.circles.least_on_circles.Goals as goal

pub returns : goal.returns
returns c =
    let ds = map (declared_of c.args.paths.now) c.args.all.now in
    let reg = entities_of c.args.entities.now in
    both_found ds reg c.earlier.result
    (c.earlier.ensures (flat_map (entity_circle reg) ds) (flat_map (value_circle (all_valued ds)) (all_valued ds)) c.in_ok-entity.ensures
    (c.in_ok-value.ensures c.args.paths.now c.requires.apart c.requires.values))
