use Rattle.std.proofs.Common.{drop}
use Rattle.literal_reading.proofs.NameLemmas.{letters_end}
use Rattle.literal_reading.proofs.scan.name.behind_letters.Goals as goal

pub returns-in_default : goal.returns-in_default
returns-in_default c = letters_end (drop c.loop-letter.letter-index c.args.word.now) c.loop-letter.rest.now _ c.in_default.ensures.cases c.loop-letter.invariant
