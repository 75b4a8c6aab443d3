use Rattle.std.specs.Prelude.{◌≡◌, ℕ, List, drop, map}
use Rattle.message_model.specs.Calls.{Waiting, waiting}
use Rattle.uno_rows.specs.declared.texts.messages.Call.{Call}
use Rattle.uno_rows.proofs.texts.messages.WaitingExpects.waits.Given as goal

-- a call and its thread, as plain data
abbrev pub entry : Call → List ℕ × Waiting
entry c = (c.tid, record { face = c.face; function = c.function })

-- no call so far is of the thread
abbrev pub invariant-loop-call : goal.invariant-loop-call
invariant-loop-call l = waiting l.tid (map entry (drop l.call-index l.self.calls.items)) ≡ waiting l.tid (map entry l.self.calls.items)
