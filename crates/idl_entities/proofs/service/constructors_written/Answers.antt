use Rattle.std.proofs.Common.{[], ◌∷◌, map}
use Rattle.registry_reading_model.specs.Changes as changed
use Rattle.idl_meaning_model.specs.Meaning as model
use Rattle.idl_trees.specs.Members as plain
use Rattle.uno_entities.specs.Entities.{constructor_of}
use Rattle.idl_entities.specs.Telling.{written_told, constructor_told}
use Rattle.idl_entities.proofs.Steps.{one_put, told_on, twice_tells}
use Rattle.idl_entities.proofs.service.constructors_written.Goals as goal

pub loop-constructor-preserved : goal.loop-constructor-preserved
loop-constructor-preserved g c =
    let t = g.M.Meanings.telling c.args.meanings.now in
    told_on (written_told t) (λ k. constructor_told t k ∷ []) (twice_tells (changed.constructor_changed t.kept) (model.constructor_meant t.all t.declared.modules)) plain.constructor_of c.args.constructors.now c.loop-constructor.constructor-index c.constructor-item.result
    (map constructor_of c.loop-constructor.meant.items) (map constructor_of c.push.new.self.items) c.loop-constructor-test.true c.constructor-item.is c.loop-constructor.invariant
    (one_put constructor_of c.loop-constructor.meant.items c.push.new.self.items c.in_ok-one.one _ c.in_ok-push.ensures.items c.in_ok-one.ensures)
