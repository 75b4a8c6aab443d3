-- What a contract sees of a `Speaker`, and which messages have parts that can be written.
use Rattle.std.specs.Prelude.{◌^◌, ◌<◌, Bool, List, length}
use Rattle.message_model.specs.Messages as plain
use Rattle.message_model.specs.WritingMessages as written
use Rattle.uno_model.specs.Entities.{Entity}
use Rattle.uno_model.specs.Kinds.{name_of}
use Rattle.uno_model.specs.Values.{plains}
use Rattle.urp_wire.specs.Written.{IsWritable, AreWritable}
use Rattle.urp_message.specs.declared.speaker.heading.Heading.{Heading}

-- what it remembers of a direction, and whether memory ran out while it wrote
pub record Saying : Type 0 where
  pub spoken : written.Spoken
  pub failed : Bool

-- the header of a request as plain data
abbrev pub heading_of : Heading → written.Heading
heading_of h = record { function = h.function; answered = h.answered; tid = h.tid.now; oid = h.oid.now; face = h.face.now }

-- each name in a header has a length of four bytes
pub record HeadingWritable (h : written.Heading) : Type 0 where
  pub tid : length h.tid < 2 ^ 32
  pub oid : length h.oid < 2 ^ 32
  pub face : length h.face < 2 ^ 32

-- and so has each part of an answer
abbrev pub AnswerWritable : plain.Answer → Type 0
AnswerWritable (plain.returned v outs) = IsWritable v × AreWritable (plains outs)
AnswerWritable (plain.raised k v) = (length (name_of k) < 2 ^ 32) × IsWritable v

-- and so has each part of a message
abbrev pub MessageWritable : List Entity → plain.Message → Type 0
MessageWritable reg (plain.request tid oid face function args) = HeadingWritable (written.call_heading reg tid oid face function) × AreWritable (plains args)
MessageWritable reg (plain.release tid oid face) = HeadingWritable (written.release_heading tid oid face)
MessageWritable reg (plain.reply tid face function answer) = (length tid < 2 ^ 32) × AnswerWritable answer
