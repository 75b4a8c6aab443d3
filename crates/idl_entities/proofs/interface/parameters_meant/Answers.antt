use Rattle.std.proofs.Common.{[], ◌∷◌, map}
use Rattle.registry_reading_model.specs.Changes as changed
use Rattle.idl_meaning_model.specs.Meaning as model
use Rattle.idl_trees.specs.Members.{parameter_of}
use Rattle.uno_entities.specs.Entities.{param_of}
use Rattle.idl_entities.specs.Telling.{parameters_told, parameter_told}
use Rattle.idl_entities.proofs.Steps.{one_put, told_on, twice_tells}
use Rattle.idl_entities.proofs.interface.parameters_meant.Goals as goal

pub loop-parameter-preserved : goal.loop-parameter-preserved
loop-parameter-preserved g c =
    let t = g.M.Meanings.telling c.args.meanings.now in
    told_on (parameters_told t) (λ k. parameter_told t k ∷ []) (twice_tells (changed.param_changed t.kept) (model.parameter_meant t.all t.declared.modules)) parameter_of c.args.parameters.now c.loop-parameter.parameter-index c.parameter-item.result
    (map param_of c.loop-parameter.meant.items) (map param_of c.push.new.self.items) c.loop-parameter-test.true c.parameter-item.is c.loop-parameter.invariant
    (one_put param_of c.loop-parameter.meant.items c.push.new.self.items c.in_ok-one.one _ c.in_ok-push.ensures.items c.in_ok-one.ensures)
