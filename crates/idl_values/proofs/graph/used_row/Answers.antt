use Rattle.idl_names.specs.Used.{used_of}
use Rattle.idl_values.specs.Graph.{used_place}
use Rattle.idl_values.specs.Places.{known_by}
use Rattle.idl_values.specs.Told.{number_at}
use Rattle.idl_values.proofs.LoopLemmas.{next_used}
use Rattle.idl_values.proofs.graph.used_row.Goals as goal

pub loop-used-preserved : goal.loop-used-preserved
loop-used-preserved c =
    next_used used_of (used_place (known_by (number_at c.args.told.now.numbers) c.args.table.now)) c.args.all.now c.loop-used.used-index c.used-item.result c.loop-used.row.items c.add_used.new.row.items
    c.loop-used-test.true c.used-item.is c.loop-used.invariant c.in_ok-add_used.ensures
