use Rattle.std.proofs.Common.{◌==◌, length, ◌≤◌, arith}
use Rattle.idl_names.proofs.MarkLemmas.{low_read, marks_none, marks_read, marks_all}
use Rattle.idl_names.proofs.marks.mark_numbers.Goals as goal

pub loop-number-init : goal.loop-number-init
loop-number-init c = marks_none (λ n m. m == n) c.args.marks.now.items

pub mark-requires : goal.mark-requires
mark-requires c =
    low_read c.args.numbers.now c.loop-number.number-index _ (length c.args.marks.now.items) (length c.loop-number.marks.items) c.loop-number-test.true c.loop-number.invariant.long c.requires

pub loop-number-preserved : goal.loop-number-preserved
loop-number-preserved c =
    marks_read (λ n m. m == n) c.args.numbers.now c.loop-number.number-index _ c.args.marks.now.items c.loop-number.marks.items c.mark.new.marks.items
    c.loop-number-test.true c.loop-number.invariant c.mark.ensures

pub returns : goal.returns
returns c =
    let end : length c.args.numbers.now ≤ c.loop-number.number-index = omega (arith, c.loop-number-test.false) in
    marks_all (λ n m. m == n) c.args.numbers.now c.loop-number.number-index c.args.marks.now.items c.loop-number.marks.items end c.loop-number.invariant
