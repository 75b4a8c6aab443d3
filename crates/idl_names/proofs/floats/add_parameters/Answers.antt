use Rattle.std.proofs.Common.{sym, append-nil}
use Rattle.idl_trees.specs.Members.{parameter_of}
use Rattle.idl_names.specs.Floats.{places_of}
use Rattle.idl_names.proofs.FloatLemmas.{each_type}
use Rattle.idl_names.proofs.floats.add_parameters.Goals as goal

pub loop-parameter-init : goal.loop-parameter-init
loop-parameter-init c = sym (append-nil (places_of c.args.places.now.items))

pub loop-parameter-preserved : goal.loop-parameter-preserved
loop-parameter-preserved c =
    each_type parameter_of (λ p. p.type) c.args.parameters.now c.loop-parameter.parameter-index c.parameter-item.result _ _ _ c.loop-parameter-test.true c.parameter-item.is c.loop-parameter.invariant
    c.in_ok-add_type.ensures
