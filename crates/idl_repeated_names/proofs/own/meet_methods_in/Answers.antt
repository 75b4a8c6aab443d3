use Rattle.std.proofs.Common.{◌∙◌, ap}
use Rattle.idl_repeated_names.proofs.MeetingLemmas.{meets_nothing, no_methods_served, no_methods_single}
use Rattle.idl_repeated_names.specs.Meeting.{methods_named}
use Rattle.uno_entities.specs.Entities.{body_of}
use Rattle.idl_repeated_names.proofs.own.meet_methods_in.Goals as goal

pub returns-in-Struct : goal.returns-in-Struct
returns-in-Struct c = meets_nothing c.args.twins.now _ (ap (λ b. methods_named (body_of b)) c.in-Struct.is)

pub returns-in-Exception : goal.returns-in-Exception
returns-in-Exception c = meets_nothing c.args.twins.now _ (ap (λ b. methods_named (body_of b)) c.in-Exception.is)

pub returns-in-Enum : goal.returns-in-Enum
returns-in-Enum c = meets_nothing c.args.twins.now _ (ap (λ b. methods_named (body_of b)) c.in-Enum.is)

pub returns-in-Constants : goal.returns-in-Constants
returns-in-Constants c = meets_nothing c.args.twins.now _ (ap (λ b. methods_named (body_of b)) c.in-Constants.is)

pub returns-in-Typedef : goal.returns-in-Typedef
returns-in-Typedef c = meets_nothing c.args.twins.now _ (ap (λ b. methods_named (body_of b)) c.in-Typedef.is)

pub returns-in-Service : goal.returns-in-Service
returns-in-Service c = meets_nothing c.args.twins.now _ (ap (λ b. methods_named (body_of b)) c.in-Service.is ∙ no_methods_served c.in-Service.field-0)

pub returns-in-Singleton : goal.returns-in-Singleton
returns-in-Singleton c = meets_nothing c.args.twins.now _ (ap (λ b. methods_named (body_of b)) c.in-Singleton.is ∙ no_methods_single c.in-Singleton.field-0)
