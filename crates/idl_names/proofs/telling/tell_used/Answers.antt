use Rattle.std.proofs.Common.{length, ◌≤◌, arith, subst}
use Rattle.std.proofs.lemmas.List.{take_all}
use Rattle.idl_meaning_model.specs.Declarations.{scope_of}
use Rattle.idl_names.specs.Collected.{declared_of}
use Rattle.idl_names.specs.Telling.{TellsUses, uses_there}
use Rattle.idl_names.specs.Used.{used_of}
use Rattle.idl_names.proofs.TellLemmas.{tells_none, next_use, tells_told, use_at}
use Rattle.idl_names.proofs.telling.tell_used.Goals as goal

pub loop-used-init : goal.loop-used-init
loop-used-init c = λ ds tells right spelled. tells_none c.args.paths.now ds c.args.told.now

pub loop-used-preserved : goal.loop-used-preserved
loop-used-preserved c = λ ds tells right spelled.
    let scope = scope_of (declared_of c.args.paths.now c.args.declared.now) in
    next_use c.args.paths.now ds scope c.args.all.now c.loop-used.used-index c.used-item.result c.args.told.now c.loop-used.told c.tell.new.told
    c.loop-used-test.true c.used-item.is (c.loop-used.invariant ds tells right spelled)
    (tells_told c.args.paths.now ds c.loop-used.told c.tell.new.told scope (used_of c.used-item.result) c.place_of.result c.stands_for.result c.in_ok-tell.ensures c.place_of.ensures
    (c.stands_for.ensures ds tells right (use_at scope c.args.all.now c.loop-used.used-index c.used-item.result c.loop-used-test.true c.used-item.is spelled)))

pub returns : goal.returns
returns c = λ ds tells right spelled.
    let end : length c.args.all.now ≤ c.loop-used.used-index = omega (arith, c.loop-used-test.false) in
    subst (λ us. TellsUses c.args.paths.now ds c.args.told.now (uses_there (scope_of (declared_of c.args.paths.now c.args.declared.now)) us) c.loop-used.told)
    (take_all c.loop-used.used-index c.args.all.now end) (c.loop-used.invariant ds tells right spelled)
