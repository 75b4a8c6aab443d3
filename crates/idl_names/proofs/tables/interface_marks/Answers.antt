use Rattle.std.proofs.Common.{◌∙◌, false, refl}
use Rattle.std.specs.List.{list_any}
use Rattle.idl_names.specs.Tables.{is_among, is_interface_at}
use Rattle.idl_names.proofs.MarkLemmas.{among_marked, low_for, marks_then}
use Rattle.idl_names.proofs.tables.interface_marks.Goals as goal

pub mark_numbers-requires : goal.mark_numbers-requires
mark_numbers-requires c = low_for (λ n. n) c.args.count _ c.args.opened.now.interfaces.items c.as_slice.result.now c.in_ok-marks.ensures.long c.as_slice.ensures.value c.requires.interfaces

pub mark_interfaces-requires : goal.mark_interfaces-requires
mark_interfaces-requires c = low_for (λ d. d.path) c.args.count _ c.args.all.now c.args.all.now (c.mark_numbers.ensures.long ∙ c.in_ok-marks.ensures.long) refl c.requires.declared

pub returns : goal.returns
returns c =
    let first = marks_then c.args.count c.in_ok-marks.marks.items c.mark_numbers.new.marks.items (λ n. false) (is_among c.args.opened.now.interfaces.items) c.in_ok-marks.ensures
    (among_marked c.in_ok-marks.marks.items c.mark_numbers.new.marks.items c.args.opened.now.interfaces.items c.as_slice.result.now c.as_slice.ensures.value c.mark_numbers.ensures) in
    marks_then c.args.count c.mark_numbers.new.marks.items c.mark_interfaces.new.marks.items (is_among c.args.opened.now.interfaces.items) (λ n. list_any (is_interface_at n) c.args.all.now) first
    c.mark_interfaces.ensures
