-- Roots and outcomes as plain trees.
use Rattle.std.specs.Prelude.{List, [], map}
use Rattle.message_model.specs.Messages.{returned, raised}
use Rattle.bridge_model.specs.Sides as plain
use Rattle.uno_entities.specs.TypeNames.{kind_of}
use Rattle.uno_model.specs.Values.{Ref}
use Rattle.uno_values.specs.Values.{plain_of}
use Rattle.bridge_model.specs.References.{refs_of_answer}
use Rattle.bridge_tables.specs.declared.roots.Outcome.{Outcome}
use Rattle.bridge_tables.specs.declared.roots.Outcome.TheVariants as outcome
use Rattle.bridge_tables.specs.declared.roots.Root.{Root}
use Rattle.bridge_tables.specs.declared.roots.Root.TheVariants as root

abbrev pub outcome_of : Outcome → plain.Outcome
outcome_of (outcome.Returned value outs) = plain.answer (returned (plain_of value) (map plain_of outs.items))
outcome_of (outcome.Raised exception) = plain.answer (raised (kind_of exception.kind) (plain_of exception.value))
outcome_of (outcome.Disposed why) = plain.disposed why
outcome_of outcome.NoMemory = plain.no_memory

abbrev pub root_of : Root → plain.RootState
root_of root.Idle = plain.idle
root_of root.Calls = plain.waits_call
root_of (root.Queries wanted) = plain.waits_query wanted
root_of (root.Answered o) = plain.answered (outcome_of o)

-- the references in an outcome
abbrev pub outcome_refs : plain.Outcome → List Ref
outcome_refs (plain.answer a) = refs_of_answer a
outcome_refs (plain.disposed why) = []
outcome_refs plain.no_memory = []

-- those in what a root got and did not take
abbrev pub state_refs : plain.RootState → List Ref
state_refs (plain.answered o) = outcome_refs o
state_refs state = []
