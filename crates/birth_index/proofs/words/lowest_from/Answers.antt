use Rattle.std.proofs.Common.{◌/◌, subst, arith}
use Rattle.birth_index.specs.Bits.{bit_of}
use Rattle.birth_index.specs.Members.{IsLowest}
use Rattle.std.proofs.Common.{sym, ◌+◌}
use Rattle.birth_index.proofs.BitLaws.{none_lower, is_lowest, low_enough, word_read, word_fits}
use Rattle.birth_index.proofs.words.lowest_from.Goals as goal

pub returns-then-rest-eq0 : goal.returns-then-rest-eq0
returns-then-rest-eq0 c =
    let words = c.args.words.now.items in
    let place = c.args.place in
    none_lower words place c.in-Some.word.now (word_read words c.deref.result.now (place / 64) c.in-Some.word.now c.deref.ensures.value c.in-Some.ensures.lookup.0 c.in-Some.ensures.lookup.1) c.if-rest-eq0.true

pub overflow_add-result : goal.overflow_add-result
overflow_add-result c =
    let words = c.args.words.now.items in
    let place = c.args.place in
    let word = c.in-Some.word.now in
    let read = word_read words c.deref.result.now (place / 64) word c.deref.ensures.value c.in-Some.ensures.lookup.0 c.in-Some.ensures.lookup.1 in
    let fits = word_fits words c.deref.result.now (place / 64) word c.deref.ensures.value c.in-Some.ensures.lookup.0 c.in-Some.ensures.lookup.1 c.type_inv.words in
    let low = low_enough words place word read (let other = c.if-rest-eq0.false in omega (arith, other)) fits in
    omega (arith, low, c.from.ensures, c.ranges.place.fits)

pub returns : goal.returns
returns c =
    let words = c.args.words.now.items in
    let place = c.args.place in
    let word = c.in-Some.word.now in
    let read = word_read words c.deref.result.now (place / 64) word c.deref.ensures.value c.in-Some.ensures.lookup.0 c.in-Some.ensures.lookup.1 in
    let fits = word_fits words c.deref.result.now (place / 64) word c.deref.ensures.value c.in-Some.ensures.lookup.0 c.in-Some.ensures.lookup.1 c.type_inv.words in
    subst (λ t. IsLowest (bit_of words) place (place + t)) (sym c.from.ensures) (is_lowest words place word read (let other = c.if-rest-eq0.false in omega (arith, other)) fits)
