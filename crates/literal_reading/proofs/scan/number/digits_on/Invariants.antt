use Rattle.std.proofs.Common.{◌≡◌, ◌≤◌, length}
use Rattle.literal_model.specs.Shapes.{digits_on}
use Rattle.literal_reading.proofs.scan.number.digits_on.Given as goal

abbrev pub invariant-loop-first : goal.invariant-loop-first
invariant-loop-first l = record {
  same : digits_on l.limit l.size l.rest ≡ digits_on l.limit l.begun l.bytes;
  some : 1 ≤ l.size;
  within : l.size ≤ l.limit;
}

abbrev pub decreases-loop-first : goal.decreases-loop-first
decreases-loop-first l = length l.rest
