use Rattle.std.proofs.Common.{◌∙◌}
use Rattle.circle_search.proofs.Rows.{row_within, row_past}
use Rattle.circle_search.proofs.graph.Graph.targets.Goals as goal

pub returns-in-Some : goal.returns-in-Some
returns-in-Some c =
    let look = rw c.deref.ensures.value at c.in-Some.ensures.lookup in
    c.as_slice.ensures.value ∙ row_within c.self.inside.rows.items c.args.self.now c.args.node c.in-Some.row.now c.self.view_is look.0 look.1

pub returns-in-None : goal.returns-in-None
returns-in-None c =
    let look = rw c.deref.ensures.value at c.in-None.ensures.lookup in
    row_past c.self.inside.rows.items c.args.self.now c.args.node c.self.view_is look.0
