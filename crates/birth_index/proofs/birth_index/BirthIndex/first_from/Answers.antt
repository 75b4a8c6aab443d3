use Rattle.std.proofs.Common.{arith}
use Rattle.birth_index.proofs.LevelLaws.{first_member, no_member, member_of, first_over, none_over, word_within}
use Rattle.birth_index.proofs.birth_index.BirthIndex.first_from.Goals as goal

pub returns-in-Some : goal.returns-in-Some
returns-in-Some c = first_member c.self.inside.births.items c.args.self.now c.self.view_is c.args.birth c.in-Some.found c.in-Some.ensures.first

pub returns-in_err-word : goal.returns-in_err-word
returns-in_err-word c =
    let s = c.self.inside in
    rw c.from_residual.ensures (no_member s.births.items c.args.self.now c.self.view_is c.args.birth (none_over s.births.items s.words.items c.self.invariant.over_births c.args.birth c.in_default.ensures c.in_err-word.ensures))

pub overflow_mul-word : goal.overflow_mul-word
overflow_mul-word c =
    let s = c.self.inside in
    let small = word_within s.births.items s.words.items c.self.invariant.over_births c.in_ok-word.word c.in_ok-word.ensures.member in
    omega (arith, small)

pub returns : goal.returns
returns c =
    let s = c.self.inside in
    member_of s.births.items c.args.self.now c.self.view_is c.args.birth c.lowest_from-2.result
    (first_over s.births.items s.words.items c.self.invariant.over_births c.args.birth c.in_default.ensures c.in_ok-word.word c.in_ok-word.ensures c.lowest_from-2.result c.lowest_from-2.ensures)
