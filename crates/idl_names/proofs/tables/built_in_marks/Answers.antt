use Rattle.std.proofs.Common.{◌∙◌, false}
use Rattle.idl_names.specs.Tables.{is_among}
use Rattle.idl_names.proofs.MarkLemmas.{among_marked, low_for, marks_then}
use Rattle.idl_names.proofs.tables.built_in_marks.Goals as goal

pub mark_numbers-requires : goal.mark_numbers-requires
mark_numbers-requires c = low_for (λ n. n) c.args.count _ c.args.opened.now.interfaces.items c.as_slice.result.now c.in_ok-marks.ensures.long c.as_slice.ensures.value c.requires.interfaces

pub mark_numbers-requires-2 : goal.mark_numbers-requires-2
mark_numbers-requires-2 c =
    low_for (λ n. n) c.args.count _ c.args.opened.now.exceptions.items c.as_slice-2.result.now (c.mark_numbers.ensures.long ∙ c.in_ok-marks.ensures.long) c.as_slice-2.ensures.value c.requires.exceptions

pub returns : goal.returns
returns c =
    let first = marks_then c.args.count c.in_ok-marks.marks.items c.mark_numbers.new.marks.items (λ n. false) (is_among c.args.opened.now.interfaces.items) c.in_ok-marks.ensures
    (among_marked c.in_ok-marks.marks.items c.mark_numbers.new.marks.items c.args.opened.now.interfaces.items c.as_slice.result.now c.as_slice.ensures.value c.mark_numbers.ensures) in
    marks_then c.args.count c.mark_numbers.new.marks.items c.mark_numbers-2.new.marks.items (is_among c.args.opened.now.interfaces.items) (is_among c.args.opened.now.exceptions.items) first
    (among_marked c.mark_numbers.new.marks.items c.mark_numbers-2.new.marks.items c.args.opened.now.exceptions.items c.as_slice-2.result.now c.as_slice-2.ensures.value c.mark_numbers-2.ensures)
