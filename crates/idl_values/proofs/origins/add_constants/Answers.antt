use Rattle.std.proofs.Common.{sym, append-nil}
use Rattle.idl_trees.specs.Members.{constant_of}
use Rattle.idl_values.specs.Origins.{origins_of}
use Rattle.idl_values.proofs.LoopLemmas.{next_constant, pushed}
use Rattle.idl_values.proofs.origins.add_constants.Goals as goal

pub loop-constant-init : goal.loop-constant-init
loop-constant-init c = sym (append-nil (origins_of c.args.origins.now.items))

pub loop-constant-preserved : goal.loop-constant-preserved
loop-constant-preserved c =
    next_constant constant_of c.args.constants.now c.loop-constant.constant-index c.constant-item.result c.args.origins.now.items c.loop-constant.origins.items c.push.new.self.items
    c.loop-constant-test.true c.constant-item.is c.loop-constant.invariant (pushed c.loop-constant.origins.items c.push.new.self.items _ c.in_ok-push.ensures.items)
