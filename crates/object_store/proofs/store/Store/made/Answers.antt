use Rattle.object_store.specs.Rows.{object_rows}
use Rattle.object_store.proofs.Keeping.{rises_outside}
use Rattle.object_store.proofs.Living.{rows_rise}
use Rattle.object_store.proofs.store.Store.made.Goals as goal

pub returns-clause-rises : goal.returns-clause-rises
returns-clause-rises g c = rises_outside c.self.inside.made (object_rows c.self.inside.objects.entries) (object_rows c.self.inside.objects.entries) c.args.self.now c.self.view_is (rows_rise c.self.inside.objects c.self.invariant.ordered)
