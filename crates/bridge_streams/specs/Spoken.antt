-- What is remembered of a direction by a speaker, and by a listener, that may be gone: nothing.
use Rattle.std.specs.Prelude.{◌≡◌, Option, None, Some}
use Rattle.message_model.specs.Headers.{Heard, nothing_heard}
use Rattle.message_model.specs.WritingMessages.{Spoken, nothing_spoken}
use Rattle.urp_message.specs.Listening.{Listening}
use Rattle.urp_message.specs.Speaking.{Saying}

abbrev pub spoken_by : Option Saying → Spoken
spoken_by None = nothing_spoken
spoken_by (Some s) = s.spoken

abbrev pub heard_by : Option Listening → Heard
heard_by None = nothing_heard
heard_by (Some l) = l.heard

-- nothing was refused
abbrev pub RefusedNothing : Option Listening → Type 0
RefusedNothing None = Unit
RefusedNothing (Some l) = l.refusal ≡ None
