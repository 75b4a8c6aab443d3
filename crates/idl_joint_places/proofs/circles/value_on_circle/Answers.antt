use Rattle.std.proofs.Common.{◌∙◌, ap, map}
use Rattle.std.proofs.lemmas.Result.{IfOk-weaker}
use Rattle.idl_meaning_model.specs.Declarations.{all_valued}
use Rattle.idl_names.specs.Collected.{declared_of}
use Rattle.idl_places.specs.Places.{places_of}
use Rattle.idl_joint_places.specs.Circles.{nodes_of, numbered}
use Rattle.idl_joint_places.proofs.CircleLaws.{value_found}
use Rattle.idl_joint_places.proofs.circles.value_on_circle.Goals as goal

pub returns : goal.returns
returns c = λ paths apart leads.
    IfOk-weaker c.least_place.result _ _
    (λ found ranked. value_found (all_valued (map (declared_of paths) c.args.all.now)) c.args.values.now apart leads c.as_slice-2.result.now found
    (ap nodes_of c.as_slice-2.ensures.value ∙ c.in_ok-nodes.ensures ∙ ap (numbered 0) (ap places_of c.as_slice.ensures.value ∙ c.in_ok-places.ensures paths)) ranked) c.least_place.ensures
