use Rattle.std.proofs.Common.{◌==◌, ◌&&◌, ◌<◌, length, ◌≤◌, arith, sym, subst}
use Rattle.idl_names.specs.Tables.{Marks, is_interface_at}
use Rattle.idl_names.proofs.MarkLemmas.{at_index, marks_none, marks_more, marks_all}
use Rattle.idl_names.proofs.marks.mark_interfaces.Goals as goal

pub loop-declared-init : goal.loop-declared-init
loop-declared-init c = marks_none is_interface_at c.args.marks.now.items

pub mark-requires : goal.mark-requires
mark-requires c =
    subst (λ k. c.declared-item.result.path < k) (sym c.loop-declared.invariant.long)
    (at_index (λ d. d.path < length c.args.marks.now.items) c.args.all.now c.loop-declared.declared-index c.declared-item.result c.loop-declared-test.true c.declared-item.is c.requires)

pub loop-declared-preserved : goal.loop-declared-preserved
loop-declared-preserved c =
    marks_more is_interface_at c.args.all.now c.loop-declared.declared-index c.declared-item.result c.args.marks.now.items c.loop-declared.marks.items c.mark.new.marks.items
    c.loop-declared-test.true c.declared-item.is c.loop-declared.invariant
    (subst (λ b. Marks c.loop-declared.marks.items (λ n. b && (c.declared-item.result.path == n)) c.mark.new.marks.items) c.is_interface.ensures c.mark.ensures)

pub returns : goal.returns
returns c =
    let end : length c.args.all.now ≤ c.loop-declared.declared-index = omega (arith, c.loop-declared-test.false) in
    marks_all is_interface_at c.args.all.now c.loop-declared.declared-index c.args.marks.now.items c.loop-declared.marks.items end c.loop-declared.invariant
