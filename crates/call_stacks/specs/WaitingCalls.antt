-- Calls that wait for the peer, and that no two stacks are of one thread.
use Rattle.std.specs.Prelude.{◌≡◌, Bool, false, List, [], ◌∷◌, is_some}
use Rattle.std.specs.List.{list_any}
use Rattle.message_model.specs.Calls.{Waiting}
use Rattle.plan_model.specs.Frames.{Outgoing, Stack, first_frame, is_of, outgoing_in}

-- what was called
abbrev pub call_of : Outgoing → Waiting
call_of o = record { face = o.face; function = o.function }

-- a call that went out waits at the top of a stack
abbrev pub is_waiting : Stack → Bool
is_waiting s = is_some (outgoing_in (first_frame s.frames))

-- behind a stack none has its TID
abbrev pub HaveOwnTids : List Stack → Type 0
HaveOwnTids [] = Unit
HaveOwnTids (s ∷ ss) = (list_any (is_of s.tid) ss ≡ false) × HaveOwnTids ss
