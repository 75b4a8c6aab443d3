use Rattle.std.proofs.Common.{◌≡◌, length}
use Rattle.literal_model.specs.Shapes.{behind_name}
use Rattle.literal_reading.proofs.scan.name.behind_name.Given as goal

abbrev pub invariant-loop-first : goal.invariant-loop-first
invariant-loop-first l = behind_name l.rest ≡ behind_name l.bytes

abbrev pub decreases-loop-first : goal.decreases-loop-first
decreases-loop-first l = length l.rest
