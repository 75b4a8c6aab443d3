use Rattle.std.proofs.Common.{List, ◌≤◌, length, arith}
use Rattle.std.specs.List.{flat_map}
use Rattle.idl_model.specs.Trees as tree
use Rattle.idl_places.proofs.Steps.{joined_tells}
use Rattle.idl_repeated_names.proofs.MeetingLemmas.{meets_all, meets_none, meets_on}
use Rattle.idl_repeated_names.specs.Meeting.{property_named}
use Rattle.idl_trees.specs.Members.{service_member_of}
use Rattle.idl_repeated_names.proofs.lists.meet_properties.Goals as goal

pub loop-member-init : goal.loop-member-init
loop-member-init c = meets_none c.args.twins.now

pub loop-member-preserved : goal.loop-member-preserved
loop-member-preserved c =
    meets_on (λ (ys : List tree.ServiceMember). flat_map property_named ys) property_named (joined_tells property_named) service_member_of c.args.members.now c.loop-member.member-index c.member-item.result c.args.twins.now c.loop-member.twins
    c.meet_property.new.twins c.loop-member-test.true c.member-item.is c.loop-member.invariant c.in_ok-meet_property.ensures

pub returns : goal.returns
returns c =
    let end : length c.args.members.now ≤ c.loop-member.member-index = omega (arith, c.loop-member-test.false) in
    meets_all (λ (ys : List tree.ServiceMember). flat_map property_named ys) service_member_of c.args.members.now c.loop-member.member-index c.args.twins.now c.loop-member.twins end c.loop-member.invariant
