use Rattle.std.proofs.Common.{ap}
use Rattle.idl_repeated_names.proofs.MeetingLemmas.{asks_nothing}
use Rattle.idl_repeated_names.specs.Over.{lists_over, owned}
use Rattle.idl_trees.specs.Trees.{declaration_of}
use Rattle.idl_repeated_names.proofs.over.ask_over.Goals as goal

pub returns-in-Forward : goal.returns-in-Forward
returns-in-Forward c = asks_nothing c.args.twins.now _ (ap (λ b. lists_over (owned c.args.around.owners.now) c.args.around.built_in.now c.args.around.registry.now c.args.name.now (declaration_of b)) c.in-Forward.is)

pub returns-in-Enum : goal.returns-in-Enum
returns-in-Enum c = asks_nothing c.args.twins.now _ (ap (λ b. lists_over (owned c.args.around.owners.now) c.args.around.built_in.now c.args.around.registry.now c.args.name.now (declaration_of b)) c.in-Enum.is)

pub returns-in-Constants : goal.returns-in-Constants
returns-in-Constants c = asks_nothing c.args.twins.now _ (ap (λ b. lists_over (owned c.args.around.owners.now) c.args.around.built_in.now c.args.around.registry.now c.args.name.now (declaration_of b)) c.in-Constants.is)

pub returns-in-Typedef : goal.returns-in-Typedef
returns-in-Typedef c = asks_nothing c.args.twins.now _ (ap (λ b. lists_over (owned c.args.around.owners.now) c.args.around.built_in.now c.args.around.registry.now c.args.name.now (declaration_of b)) c.in-Typedef.is)

pub returns-in-NewService : goal.returns-in-NewService
returns-in-NewService c = asks_nothing c.args.twins.now _ (ap (λ b. lists_over (owned c.args.around.owners.now) c.args.around.built_in.now c.args.around.registry.now c.args.name.now (declaration_of b)) c.in-NewService.is)

pub returns-in-OldService : goal.returns-in-OldService
returns-in-OldService c = asks_nothing c.args.twins.now _ (ap (λ b. lists_over (owned c.args.around.owners.now) c.args.around.built_in.now c.args.around.registry.now c.args.name.now (declaration_of b)) c.in-OldService.is)

pub returns-in-NewSingleton : goal.returns-in-NewSingleton
returns-in-NewSingleton c = asks_nothing c.args.twins.now _ (ap (λ b. lists_over (owned c.args.around.owners.now) c.args.around.built_in.now c.args.around.registry.now c.args.name.now (declaration_of b)) c.in-NewSingleton.is)

pub returns-in-OldSingleton : goal.returns-in-OldSingleton
returns-in-OldSingleton c = asks_nothing c.args.twins.now _ (ap (λ b. lists_over (owned c.args.around.owners.now) c.args.around.built_in.now c.args.around.registry.now c.args.name.now (declaration_of b)) c.in-OldSingleton.is)
