-- Exceptions, and what a frame ends with, as plain trees.
use Rattle.std.specs.Prelude.{ℕ, List, Option, None, Some, Result, Ok, Err}
use Rattle.message_model.specs.Messages.{Answer, raised}
use Rattle.plan_model.specs.Leaving.{caused}
use Rattle.plan_model.specs.declared.runtime_cause.RuntimeCause.{RuntimeCause}
use Rattle.uno_entities.specs.TypeNames.{kind_of}
use Rattle.uno_model.specs.BuiltIn.{runtime_exception_name}
use Rattle.uno_model.specs.Values.{null, Plain}
use Rattle.uno_model.specs.Values as v
use Rattle.uno_values.specs.Values.{plain_of}
use Rattle.uno_values.specs.declared.value.AnyValue.{AnyValue}

-- an exception that is raised
abbrev pub raised_of : AnyValue → Answer
raised_of x = raised (kind_of x.kind) (plain_of x.value)

-- the value of a RuntimeException of this message and no context
abbrev pub runtime_value : List ℕ → Plain
runtime_value message = v.tuple runtime_exception_name (v.more (v.str message) (v.more (v.ref null) v.none))

-- an answer, or the exception of a cause in its place
abbrev pub unless_caused : Option RuntimeCause → Answer → Answer
unless_caused None a = a
unless_caused (Some cause) a = caused cause

-- a value, or the cause for which there is none
abbrev pub value_unless : Option RuntimeCause → Plain → Result Plain RuntimeCause
value_unless None x = Ok x
value_unless (Some cause) x = Err cause
