use Rattle.std.proofs.Common.{arith}
use Rattle.command_words.proofs.Taking.{parts_are}
use Rattle.command_words.proofs.parts.name_and_value.Goals as goal

pub returns : goal.returns
returns c = parts_are c.args.word.now c.split_once.result (c.split_once.ensures.byte (omega arith) (λ w o f. f))
