use Rattle.std.proofs.Common.{◌/◌, arith}
use Rattle.std.proofs.lemmas.List.{get_or_read}
use Rattle.birth_index.proofs.BitLaws.{bit_set}
use Rattle.birth_index.proofs.words.set_bit.Goals as goal

pub returns-clause-bits : goal.returns-clause-bits
returns-clause-bits c =
    let words = c.args.words.now.items in
    bit_set words c.args.place c.index-word.result.now c.requires (get_or_read words (c.args.place / 64) _ (omega (arith, c.requires)) c.index-word.ensures 0)
