use Rattle.std.proofs.Common.{[], ◌∷◌, map}
use Rattle.registry_reading_model.specs.Changes as changed
use Rattle.idl_trees.specs.Members.{constructor_parameter_of}
use Rattle.uno_entities.specs.Entities.{field_of}
use Rattle.idl_entities.specs.Telling.{argument_meant, argument_told, arguments_told}
use Rattle.idl_entities.proofs.Steps.{one_put, told_on, twice_tells}
use Rattle.idl_entities.proofs.service.arguments_meant.Goals as goal

pub loop-parameter-preserved : goal.loop-parameter-preserved
loop-parameter-preserved g c =
    let t = g.M.Meanings.telling c.args.meanings.now in
    told_on (arguments_told t) (λ k. argument_told t k ∷ []) (twice_tells (changed.field_changed t.kept) (argument_meant t)) constructor_parameter_of c.args.parameters.now c.loop-parameter.parameter-index c.parameter-item.result
    (map field_of c.loop-parameter.meant.items) (map field_of c.push.new.self.items) c.loop-parameter-test.true c.parameter-item.is c.loop-parameter.invariant
    (one_put field_of c.loop-parameter.meant.items c.push.new.self.items c.in_ok-one.one _ c.in_ok-push.ensures.items c.in_ok-one.ensures)
