use Rattle.std.proofs.Common.{ap}
use Rattle.idl_repeated_names.proofs.MeetingLemmas.{meets_nothing}
use Rattle.idl_repeated_names.specs.Meeting.{method_named}
use Rattle.uno_entities.specs.Entities.{member_of}
use Rattle.idl_repeated_names.proofs.own.meet_member.Goals as goal

pub returns-in-Attribute : goal.returns-in-Attribute
returns-in-Attribute c = meets_nothing c.args.twins.now _ (ap (λ b. method_named (member_of b)) c.in-Attribute.is)
