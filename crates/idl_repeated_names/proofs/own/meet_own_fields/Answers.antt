use Rattle.std.proofs.Common.{ap}
use Rattle.idl_repeated_names.proofs.MeetingLemmas.{meets_nothing}
use Rattle.idl_repeated_names.specs.Meeting.{own_fields_named}
use Rattle.idl_trees.specs.Trees.{declaration_of}
use Rattle.idl_repeated_names.proofs.own.meet_own_fields.Goals as goal

pub returns-in-Forward : goal.returns-in-Forward
returns-in-Forward c = meets_nothing c.args.twins.now _ (ap (λ b. own_fields_named (declaration_of b)) c.in-Forward.is)

pub returns-in-Interface : goal.returns-in-Interface
returns-in-Interface c = meets_nothing c.args.twins.now _ (ap (λ b. own_fields_named (declaration_of b)) c.in-Interface.is)

pub returns-in-Enum : goal.returns-in-Enum
returns-in-Enum c = meets_nothing c.args.twins.now _ (ap (λ b. own_fields_named (declaration_of b)) c.in-Enum.is)

pub returns-in-Constants : goal.returns-in-Constants
returns-in-Constants c = meets_nothing c.args.twins.now _ (ap (λ b. own_fields_named (declaration_of b)) c.in-Constants.is)

pub returns-in-Typedef : goal.returns-in-Typedef
returns-in-Typedef c = meets_nothing c.args.twins.now _ (ap (λ b. own_fields_named (declaration_of b)) c.in-Typedef.is)

pub returns-in-NewService : goal.returns-in-NewService
returns-in-NewService c = meets_nothing c.args.twins.now _ (ap (λ b. own_fields_named (declaration_of b)) c.in-NewService.is)

pub returns-in-OldService : goal.returns-in-OldService
returns-in-OldService c = meets_nothing c.args.twins.now _ (ap (λ b. own_fields_named (declaration_of b)) c.in-OldService.is)

pub returns-in-NewSingleton : goal.returns-in-NewSingleton
returns-in-NewSingleton c = meets_nothing c.args.twins.now _ (ap (λ b. own_fields_named (declaration_of b)) c.in-NewSingleton.is)

pub returns-in-OldSingleton : goal.returns-in-OldSingleton
returns-in-OldSingleton c = meets_nothing c.args.twins.now _ (ap (λ b. own_fields_named (declaration_of b)) c.in-OldSingleton.is)
