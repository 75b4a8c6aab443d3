use Rattle.std.proofs.Common.{◌≡◌, drop}
use Rattle.literal_model.specs.Shapes.{behind_letters}
use Rattle.literal_reading.proofs.scan.name.behind_letters.Given as goal

abbrev pub invariant-loop-letter : goal.invariant-loop-letter
invariant-loop-letter l = behind_letters (drop l.letter-index l.word) l.rest ≡ behind_letters l.word l.bytes
