use Rattle.std.proofs.Common.{◌++◌, map}
use Rattle.bridge_model.specs.References.{refs_of_values}
use Rattle.uno_values.specs.References.{ref_of}
use Rattle.uno_values.specs.Values.{plain_of}
use Rattle.bridge_tables.proofs.PushLemmas.{refs_pushed}
use Rattle.bridge_tables.proofs.values.push_all.Goals as goal

pub loop-value-preserved : goal.loop-value-preserved
loop-value-preserved c =
    refs_pushed c.args.values.now c.loop-value.value-index c.value-item.result (map ref_of c.loop-value.all.items) (map ref_of c.push_refs.new.all.items)
    (map ref_of c.args.all.now.items ++ refs_of_values (map plain_of c.args.values.now)) c.loop-value-test.true c.value-item.is c.in_ok-push_refs.ensures c.loop-value.invariant
