-- Messages as plain trees, and what is remembered of a direction.
use Rattle.std.specs.Prelude.{map, option_map}
use Rattle.message_model.specs.Headers as header
use Rattle.message_model.specs.Messages as plain
use Rattle.uno_entities.specs.TypeNames.{kind_of}
use Rattle.uno_values.specs.Values.{plain_of}
use Rattle.message_model.specs.WritingMessages as written
use Rattle.urp_message.specs.declared.remembered.Heard.{Heard}
use Rattle.urp_message.specs.declared.remembered.Last.{Last}
use Rattle.urp_message.specs.declared.remembered.Spoken.{Spoken}
use Rattle.urp_message.specs.declared.message.Answer.{Answer}
use Rattle.urp_message.specs.declared.message.Answer.TheVariants.{Returned, Raised}
use Rattle.urp_message.specs.declared.message.Message.{Message}
use Rattle.urp_message.specs.declared.message.Message.TheVariants.{Request, Release, Reply}
use Rattle.urp_wire.specs.Gives.{tables_of}
use Rattle.urp_wire.specs.Written.{names_of}

-- an answer
abbrev pub answer_of : Answer → plain.Answer
answer_of (Returned v outs) = plain.returned (plain_of v) (map plain_of outs.items)
answer_of (Raised exception) = plain.raised (kind_of exception.kind) (plain_of exception.value)

-- a message
abbrev pub message_of : Message → plain.Message
message_of (Request tid oid face function args) = plain.request tid oid face function (map plain_of args.items)
message_of (Release tid oid face) = plain.release tid oid face
message_of (Reply tid face function answer) = plain.reply tid face function (answer_of answer)

-- what was named last
abbrev pub last_of : Last → header.Last
last_of last = record { kind = option_map kind_of last.kind; oid = last.oid; tid = last.tid }

-- what a reader remembers, and what a sender does
abbrev pub heard_of : Heard → header.Heard
heard_of heard = record { tables = tables_of heard.caches; last = last_of heard.last }

abbrev pub spoken_of : Spoken → written.Spoken
spoken_of spoken = record { names = names_of spoken.caches; last = last_of spoken.last }
