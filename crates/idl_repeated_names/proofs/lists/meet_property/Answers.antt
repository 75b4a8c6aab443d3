use Rattle.std.proofs.Common.{ap}
use Rattle.idl_repeated_names.proofs.MeetingLemmas.{meets_nothing}
use Rattle.idl_repeated_names.specs.Meeting.{property_named}
use Rattle.idl_trees.specs.Members.{service_member_of}
use Rattle.idl_repeated_names.proofs.lists.meet_property.Goals as goal

pub returns-in-Interface : goal.returns-in-Interface
returns-in-Interface c = meets_nothing c.args.twins.now _ (ap (λ b. property_named (service_member_of b)) c.in-Interface.is)

pub returns-in-Service : goal.returns-in-Service
returns-in-Service c = meets_nothing c.args.twins.now _ (ap (λ b. property_named (service_member_of b)) c.in-Service.is)
