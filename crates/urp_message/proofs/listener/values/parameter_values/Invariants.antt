use Rattle.std.specs.Prelude.{◌≡◌, map, drop}
use Rattle.message_model.specs.Calls.{kinds_on}
use Rattle.type_registry.specs.Functions.{lent_function}
use Rattle.uno_values.specs.Values.{plain_of}
use Rattle.urp_message.specs.Params.{carries}
use Rattle.urp_model.specs.Reading.{members_at, value_at}
use Rattle.urp_wire.specs.Gives.{tables_of}
use Rattle.urp_wire.proofs.Loops.{with_front}
use Rattle.urp_message.proofs.listener.values.parameter_values.Given as goal

-- what was read, before what is read next, is what is to be read
abbrev pub invariant-loop-place : goal.invariant-loop-place
invariant-loop-place l =
    with_front (map plain_of l.values.items)
    (members_at (value_at 64 l.registry) (kinds_on (carries l.phase) (drop l.place (lent_function l.function).params)) (tables_of l.caches) l.rest)
    ≡ members_at (value_at 64 l.registry) (kinds_on (carries l.phase) (lent_function l.function).params) (tables_of l.fn.caches) l.bytes
