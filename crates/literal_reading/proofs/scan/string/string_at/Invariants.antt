use Rattle.std.proofs.Common.{◌≡◌, length, false}
use Rattle.literal_model.specs.Shapes.{string_at}
use Rattle.literal_reading.proofs.ScanLemmas.{with_all}
use Rattle.literal_reading.proofs.scan.string.string_at.Given as goal

abbrev pub invariant-loop-first : goal.invariant-loop-first
invariant-loop-first l = with_all l.text.items (string_at l.escaped l.rest) ≡ string_at false l.bytes

abbrev pub decreases-loop-first : goal.decreases-loop-first
decreases-loop-first l = length l.rest
