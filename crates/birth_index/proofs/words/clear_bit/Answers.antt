use Rattle.std.proofs.Common.{◌-◌, ◌/◌, ◌%◌, ◌^◌, ◌*◌, arith}
use Rattle.std.proofs.lemmas.List.{get_or_read}
use Rattle.std.proofs.lemmas.Nat.{and_le_r}
use Rattle.birth_index.proofs.BitLaws.{bit_cleared, word_tells}
use Rattle.birth_index.proofs.words.clear_bit.Goals as goal

pub returns-clause-bits : goal.returns-clause-bits
returns-clause-bits c =
    let words = c.args.words.now.items in
    bit_cleared words c.args.place c.index.result.now c.requires (get_or_read words (c.args.place / 64) _ (omega (arith, c.requires)) c.index.ensures 0)

pub returns-clause-empty : goal.returns-clause-empty
returns-clause-empty c =
    let smaller = and_le_r c.index.result.now (18446744073709551615 - 1 * 2 ^ (c.args.place % 64) % 18446744073709551616) in
    word_tells c.args.words.now.items c.args.place _ c.requires (omega (arith, smaller))
