-- Which objects a message names: the one to which it is addressed, and apart from it those in its values, in the order of its bytes.
use Rattle.std.specs.Prelude.{ℕ, List, [], ◌++◌, Option, None, Some}
use Rattle.uno_model.specs.Entities.{Entity}
use Rattle.uno_model.specs.Functions.{Function}
use Rattle.uno_model.specs.Values.{Plains, none, plains}
use Rattle.urp_model.specs.Namings.{Naming, namings, namings_each}
use Rattle.message_model.specs.Calls.{numbered}
use Rattle.message_model.specs.Messages.{Answer, returned, raised, Message, request, release, reply}
use Rattle.message_model.specs.Said.{answer_values}
use Rattle.message_model.specs.Sayable.{arguments_of, outs_of, result_of}

-- an object and the interface under which it is called or let go
pub record Address : Type 0 where
  pub oid : List ℕ
  pub face : List ℕ

-- to whom a message is addressed
abbrev pub addressed : Message → Option Address
addressed (request tid oid face function args) = Some (record { oid = oid; face = face })
addressed (release tid oid face) = Some (record { oid = oid; face = face })
addressed (reply tid face function answer) = None

-- the values of a message, in the order of its bytes
abbrev pub message_values : Message → Plains
message_values (request tid oid face function args) = plains args
message_values (release tid oid face) = none
message_values (reply tid face function answer) = answer_values answer

-- the objects that the answer to a function names, each at the type of its place: the result and the other values, or what the exception holds
abbrev pub answer_namings : List Entity → Option Function → Answer → List Naming
answer_namings reg f (returned v outs) = namings reg v (result_of f) ++ namings_each reg (plains outs) (outs_of f)
answer_namings reg f (raised k v) = namings reg v k

-- the objects that the values of a message name
unfoldable pub message_namings : List Entity → Message → List Naming
message_namings reg (request tid oid face function args) = namings_each reg (plains args) (arguments_of (numbered reg face function))
message_namings reg (release tid oid face) = []
message_namings reg (reply tid face function answer) = answer_namings reg (numbered reg face function) answer
