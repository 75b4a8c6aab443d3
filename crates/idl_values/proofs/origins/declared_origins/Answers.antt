use Rattle.std.proofs.Common.{◌≡◌, ◌≤◌, arith, length, map, subst}
use Rattle.std.proofs.lemmas.List.{take_all}
use Rattle.idl_meaning_model.specs.Declarations.{all_valued}
use Rattle.idl_names.specs.Collected.{declared_of}
use Rattle.idl_values.specs.Origins.{all_origins, origins_of}
use Rattle.idl_values.proofs.LoopLemmas.{next_declared, no_declared}
use Rattle.idl_values.proofs.origins.declared_origins.Goals as goal

pub loop-declared-init : goal.loop-declared-init
loop-declared-init c = λ paths. no_declared c.new-origins.result.items c.new-origins.ensures.items

pub loop-declared-preserved : goal.loop-declared-preserved
loop-declared-preserved c = λ paths.
    next_declared (declared_of paths) c.args.all.now c.loop-declared.declared-index c.declared-item.result c.loop-declared.origins.items c.add_origins.new.origins.items
    c.loop-declared-test.true c.declared-item.is (c.loop-declared.invariant paths) c.in_ok-add_origins.ensures

pub returns : goal.returns
returns c = λ paths.
    let end : length c.args.all.now ≤ c.loop-declared.declared-index = omega (arith, c.loop-declared-test.false) in
    subst (λ xs. origins_of c.loop-declared.origins.items ≡ all_origins (all_valued (map (declared_of paths) xs))) (take_all c.loop-declared.declared-index c.args.all.now end) (c.loop-declared.invariant paths)
