use Rattle.std.proofs.Common.{None, Some, sym, ap, ◌∙◌}
use Rattle.birth_index.specs.Bits.{has}
use Rattle.table_model.specs.Objects.{lowest}
use Rattle.object_store.specs.Rows.{object_rows}
use Rattle.object_store.proofs.Keeping.{rises_outside}
use Rattle.object_store.proofs.Living.{rows_rise}
use Rattle.object_store.proofs.Marking.{lowest_told}
use Rattle.object_store.proofs.store.Store.lowest.Goals as goal

pub returns-in_err-number-clause-lowest : goal.returns-in_err-number-clause-lowest
returns-in_err-number-clause-lowest g c =
    c.from_residual.ensures
    ∙ sym (lowest_told (has c.self.inside.marks) (object_rows c.self.inside.objects.entries) (rows_rise c.self.inside.objects c.self.invariant.ordered) c.self.invariant.marks_are None c.in_err-number.ensures)
    ∙ ap (λ s. lowest s.rows) c.self.view_is

pub returns-in_err-number-clause-rises : goal.returns-in_err-number-clause-rises
returns-in_err-number-clause-rises g c = rises_outside c.self.inside.made (object_rows c.self.inside.objects.entries) (object_rows c.self.inside.objects.entries) c.args.self.now c.self.view_is (rows_rise c.self.inside.objects c.self.invariant.ordered)

pub returns-clause-lowest : goal.returns-clause-lowest
returns-clause-lowest g c =
    sym (lowest_told (has c.self.inside.marks) (object_rows c.self.inside.objects.entries) (rows_rise c.self.inside.objects c.self.invariant.ordered) c.self.invariant.marks_are (Some c.in_ok-number.number) c.in_ok-number.ensures)
    ∙ ap (λ s. lowest s.rows) c.self.view_is

pub returns-clause-rises : goal.returns-clause-rises
returns-clause-rises g c = rises_outside c.self.inside.made (object_rows c.self.inside.objects.entries) (object_rows c.self.inside.objects.entries) c.args.self.now c.self.view_is (rows_rise c.self.inside.objects c.self.invariant.ordered)
