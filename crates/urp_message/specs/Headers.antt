-- The parts of headers as plain data.
use Rattle.message_model.specs.Headers as header
use Rattle.uno_model.specs.Kinds as kd
use Rattle.uno_entities.specs.TypeNames.{kind_of}
use Rattle.urp_message.specs.declared.listener.opening.Opening.{Opening}
use Rattle.urp_message.specs.declared.listener.request.Called.{Called}
use Rattle.urp_message.specs.declared.listener.target.Target.{Target}

-- how a request begins
abbrev pub opening_of : Opening → header.Opening
opening_of o = record { function = o.function; answered = o.answered; new_type = o.new_type; new_oid = o.new_oid; new_tid = o.new_tid }

-- whom it calls
abbrev pub target_of : Target → header.Target
target_of t = record { kind = kind_of t.kind; oid = t.oid; tid = t.tid }

-- an interface that is called
abbrev pub called_of : Called → header.Target
called_of c = record { kind = kd.interface c.face; oid = c.oid; tid = c.tid }
