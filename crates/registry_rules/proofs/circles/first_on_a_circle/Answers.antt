use Rattle.uno_entities.specs.Entities.{entities_of}
use Rattle.registry_rules.proofs.WayLaws.{none_on_a_circle, first_on_circle_is}
use Rattle.registry_rules.proofs.circles.first_on_a_circle.Goals as goal

pub returns-in-Some : goal.returns-in-Some
returns-in-Some c =
    let found = rw c.in-Some.is at c.in_ok-place.ensures in
    first_on_circle_is (entities_of c.args.entities.now) _ c.in-Some.place c.requires c.in_ok-graph.ensures found

pub returns : goal.returns
returns c =
    let none = rw c.in-None.is at c.in_ok-place.ensures in
    none_on_a_circle (entities_of c.args.entities.now) _ c.requires c.in_ok-graph.ensures none
