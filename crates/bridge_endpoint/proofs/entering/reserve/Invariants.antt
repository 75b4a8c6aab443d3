use Rattle.std.proofs.Common.{◌≡◌, ◌+◌}
use Rattle.bridge_endpoint.specs.Entering.{IsWithin, with_room}
use Rattle.bridge_endpoint.proofs.entering.reserve.Given as goal

-- so many places were taken
abbrev pub invariant-loop-turn : goal.invariant-loop-turn
invariant-loop-turn l = record {
  taken : l.journal ≡ with_room (l.fn.journal.room + l._turn) l.fn.journal;
  within : IsWithin l.fn.journal → IsWithin l.journal;
}
