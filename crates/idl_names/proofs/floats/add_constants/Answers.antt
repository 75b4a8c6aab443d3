use Rattle.std.proofs.Common.{sym, append-nil}
use Rattle.idl_trees.specs.Members.{constant_of}
use Rattle.idl_names.specs.Floats.{places_of}
use Rattle.idl_names.proofs.FloatLemmas.{each_type}
use Rattle.idl_names.proofs.floats.add_constants.Goals as goal

pub loop-constant-init : goal.loop-constant-init
loop-constant-init c = sym (append-nil (places_of c.args.places.now.items))

pub loop-constant-preserved : goal.loop-constant-preserved
loop-constant-preserved c =
    each_type constant_of (λ c. c.type) c.args.constants.now c.loop-constant.constant-index c.constant-item.result _ _ _ c.loop-constant-test.true c.constant-item.is c.loop-constant.invariant
    c.in_ok-add_type.ensures
