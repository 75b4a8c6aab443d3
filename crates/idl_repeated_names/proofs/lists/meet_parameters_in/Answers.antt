use Rattle.std.proofs.Common.{ap}
use Rattle.idl_repeated_names.proofs.MeetingLemmas.{meets_nothing}
use Rattle.idl_repeated_names.specs.Meeting.{parameters_named}
use Rattle.idl_trees.specs.Members.{interface_member_of}
use Rattle.idl_repeated_names.proofs.lists.meet_parameters_in.Goals as goal

pub returns-in-Base : goal.returns-in-Base
returns-in-Base c = meets_nothing c.args.twins.now _ (ap (λ b. parameters_named (interface_member_of b)) c.in-Base.is)

pub returns-in-Attribute : goal.returns-in-Attribute
returns-in-Attribute c = meets_nothing c.args.twins.now _ (ap (λ b. parameters_named (interface_member_of b)) c.in-Attribute.is)
