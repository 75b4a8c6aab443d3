use Rattle.std.proofs.Common.{ap}
use Rattle.idl_repeated_names.proofs.MeetingLemmas.{meets_nothing}
use Rattle.idl_repeated_names.specs.Meeting.{accessors_named}
use Rattle.idl_trees.specs.Members.{interface_member_of}
use Rattle.idl_repeated_names.proofs.own.meet_attribute.Goals as goal

pub returns-in-Base : goal.returns-in-Base
returns-in-Base c = meets_nothing c.args.twins.now _ (ap (λ b. accessors_named (interface_member_of b)) c.in-Base.is)

pub returns-in-Method : goal.returns-in-Method
returns-in-Method c = meets_nothing c.args.twins.now _ (ap (λ b. accessors_named (interface_member_of b)) c.in-Method.is)
