use Rattle.std.proofs.Common.{◌∙◌, ap}
use Rattle.idl_repeated_names.proofs.MeetingLemmas.{meets_nothing, no_members_served, no_members_single}
use Rattle.idl_repeated_names.specs.Meeting.{members_named}
use Rattle.uno_entities.specs.Entities.{body_of}
use Rattle.idl_repeated_names.proofs.own.meet_members_in.Goals as goal

pub returns-in-Interface : goal.returns-in-Interface
returns-in-Interface c = meets_nothing c.args.twins.now _ (ap (λ b. members_named (body_of b)) c.in-Interface.is)

pub returns-in-Enum : goal.returns-in-Enum
returns-in-Enum c = meets_nothing c.args.twins.now _ (ap (λ b. members_named (body_of b)) c.in-Enum.is)

pub returns-in-Constants : goal.returns-in-Constants
returns-in-Constants c = meets_nothing c.args.twins.now _ (ap (λ b. members_named (body_of b)) c.in-Constants.is)

pub returns-in-Typedef : goal.returns-in-Typedef
returns-in-Typedef c = meets_nothing c.args.twins.now _ (ap (λ b. members_named (body_of b)) c.in-Typedef.is)

pub returns-in-Service : goal.returns-in-Service
returns-in-Service c = meets_nothing c.args.twins.now _ (ap (λ b. members_named (body_of b)) c.in-Service.is ∙ no_members_served c.in-Service.field-0)

pub returns-in-Singleton : goal.returns-in-Singleton
returns-in-Singleton c = meets_nothing c.args.twins.now _ (ap (λ b. members_named (body_of b)) c.in-Singleton.is ∙ no_members_single c.in-Singleton.field-0)
