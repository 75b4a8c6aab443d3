use Rattle.std.proofs.Common.{◌≡◌, length}
use Rattle.literal_model.specs.Shapes.{behind_words}
use Rattle.literal_reading.proofs.scan.name.behind_words.Given as goal

abbrev pub invariant-loop-first : goal.invariant-loop-first
invariant-loop-first l = behind_words l.rest ≡ behind_words l.bytes

abbrev pub decreases-loop-first : goal.decreases-loop-first
decreases-loop-first l = length l.rest
