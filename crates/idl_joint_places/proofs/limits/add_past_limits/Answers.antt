use Rattle.std.proofs.Common.{◌∙◌, OnOk, map, subst}
use Rattle.uno_entities.specs.Entities.{entities_of}
use Rattle.idl_names.specs.Collected.{declared_of}
use Rattle.idl_places.specs.Places.{AddsPlaces}
use Rattle.idl_joint_places.proofs.KeptLaws.{past_among}
use Rattle.idl_joint_places.proofs.limits.add_past_limits.Goals as goal

pub add_unmarked-requires-clause-marks : goal.add_unmarked-requires-clause-marks
add_unmarked-requires-clause-marks c = c.as_slice.ensures.value ∙ c.in_ok-whole.ensures

pub returns : goal.returns
returns c =
    subst (λ ps. OnOk c.add_unmarked.result (AddsPlaces c.args.places.now.items ps c.add_unmarked.new.places.items))
    (past_among (map (declared_of c.args.paths.now) c.args.all.now) (entities_of c.args.entities.now) c.requires.kept) c.add_unmarked.ensures
