use Rattle.std.proofs.Common.{false}
use Rattle.idl_names.specs.Tables.{is_among}
use Rattle.idl_names.proofs.MarkLemmas.{among_marked, low_for, marks_then}
use Rattle.idl_names.proofs.tables.value_marks.Goals as goal

pub mark_numbers-requires : goal.mark_numbers-requires
mark_numbers-requires c = low_for (λ n. n) c.args.count _ c.args.opened.now.values.items c.as_slice.result.now c.in_ok-marks.ensures.long c.as_slice.ensures.value c.requires

pub returns : goal.returns
returns c =
    marks_then c.args.count c.in_ok-marks.marks.items c.mark_numbers.new.marks.items (λ n. false) (is_among c.args.opened.now.values.items) c.in_ok-marks.ensures
    (among_marked c.in_ok-marks.marks.items c.mark_numbers.new.marks.items c.args.opened.now.values.items c.as_slice.result.now c.as_slice.ensures.value c.mark_numbers.ensures)
