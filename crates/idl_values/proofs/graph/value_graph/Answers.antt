use Rattle.std.proofs.Common.{◌∙◌, ◌∷◌, [], ◌++◌, ap}
use Rattle.idl_values.specs.Origins.{origin_of}
use Rattle.idl_values.specs.Places.{known_by}
use Rattle.idl_values.specs.Told.{number_at}
use Rattle.idl_values.proofs.LoopLemmas.{next_row, no_rows}
use Rattle.idl_values.proofs.graph.value_graph.Goals as goal

pub loop-place-init : goal.loop-place-init
loop-place-init c = c.new-graph.ensures ∙ no_rows (known_by (number_at c.args.told.now.numbers) c.args.table.now)

pub loop-place-preserved : goal.loop-place-preserved
loop-place-preserved c =
    next_row origin_of (known_by (number_at c.args.told.now.numbers) c.args.table.now) c.args.origins.now c.loop-place.place c.index-origins-place.result c.loop-place.graph c.add_node.new.self
    c.loop-place-test.true c.index-origins-place.is c.loop-place.invariant
    (c.in_ok-add_node.ensures.added ∙ ap (λ r. c.loop-place.graph ++ r ∷ []) c.in_ok-row.ensures)
