use Rattle.std.proofs.Common.{ap}
use Rattle.idl_repeated_names.proofs.MeetingLemmas.{asks_nothing}
use Rattle.idl_repeated_names.specs.Meeting.{own_lists}
use Rattle.idl_trees.specs.Trees.{declaration_of}
use Rattle.idl_repeated_names.proofs.lists.ask_own.Goals as goal

pub returns-in-Forward : goal.returns-in-Forward
returns-in-Forward c = asks_nothing c.args.twins.now _ (ap (λ b. own_lists (declaration_of b)) c.in-Forward.is)

pub returns-in-Struct : goal.returns-in-Struct
returns-in-Struct c = asks_nothing c.args.twins.now _ (ap (λ b. own_lists (declaration_of b)) c.in-Struct.is)

pub returns-in-Exception : goal.returns-in-Exception
returns-in-Exception c = asks_nothing c.args.twins.now _ (ap (λ b. own_lists (declaration_of b)) c.in-Exception.is)

pub returns-in-Typedef : goal.returns-in-Typedef
returns-in-Typedef c = asks_nothing c.args.twins.now _ (ap (λ b. own_lists (declaration_of b)) c.in-Typedef.is)

pub returns-in-NewSingleton : goal.returns-in-NewSingleton
returns-in-NewSingleton c = asks_nothing c.args.twins.now _ (ap (λ b. own_lists (declaration_of b)) c.in-NewSingleton.is)

pub returns-in-OldSingleton : goal.returns-in-OldSingleton
returns-in-OldSingleton c = asks_nothing c.args.twins.now _ (ap (λ b. own_lists (declaration_of b)) c.in-OldSingleton.is)
