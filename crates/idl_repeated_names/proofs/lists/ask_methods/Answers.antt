use Rattle.std.proofs.Common.{◌≤◌, length, arith}
use Rattle.idl_repeated_names.proofs.MeetingLemmas.{asks_all, asks_none, asks_on}
use Rattle.idl_repeated_names.specs.Meeting.{parameters_named}
use Rattle.idl_trees.specs.Members.{interface_member_of}
use Rattle.idl_repeated_names.proofs.lists.ask_methods.Goals as goal

pub loop-member-init : goal.loop-member-init
loop-member-init c = asks_none c.args.twins.now

pub loop-member-preserved : goal.loop-member-preserved
loop-member-preserved c =
    asks_on parameters_named interface_member_of c.args.members.now c.loop-member.member-index c.member-item.result c.args.twins.now c.loop-member.twins c.ask_method.new.twins c.loop-member-test.true c.member-item.is
    c.loop-member.invariant c.in_ok-ask_method.ensures

pub returns : goal.returns
returns c =
    let end : length c.args.members.now ≤ c.loop-member.member-index = omega (arith, c.loop-member-test.false) in
    asks_all parameters_named interface_member_of c.args.members.now c.loop-member.member-index c.args.twins.now c.loop-member.twins end c.loop-member.invariant
