use Rattle.std.proofs.Common.{refl, sym, ◌∙◌, map}
use Rattle.uno_entities.specs.Entities.{constructor_of}
use Rattle.uno_values.specs.Values.{plain_of}
use Rattle.service_manager.proofs.ArgumentLaws.{left_at, left_none, is_first, passed_over, none_first}
use Rattle.service_manager.proofs.arguments.first_taking.Goals as goal

pub returns-then-takes_all : goal.returns-then-takes_all
returns-then-takes_all c =
    let i = c.loop-constructor.constructor-index in
    let front = left_at constructor_of c.args.constructors.now c.args.constructors.now i c.constructor-item.result refl c.loop-constructor-test.true c.constructor-item.is in
    is_first c.args.registry.now (constructor_of c.constructor-item.result) _ _ (map constructor_of c.args.constructors.now) (map plain_of c.args.args.now) front c.loop-constructor.invariant (sym c.if-takes_all.true ∙ c.takes_all.ensures)

pub loop-constructor-preserved : goal.loop-constructor-preserved
loop-constructor-preserved c =
    let i = c.loop-constructor.constructor-index in
    let front = left_at constructor_of c.args.constructors.now c.args.constructors.now i c.constructor-item.result refl c.loop-constructor-test.true c.constructor-item.is in
    passed_over c.args.registry.now (constructor_of c.constructor-item.result) _ _ (map constructor_of c.args.constructors.now) (map plain_of c.args.args.now) front c.loop-constructor.invariant (sym c.if-takes_all.false ∙ c.takes_all.ensures)

pub returns : goal.returns
returns c =
    none_first c.args.registry.now _ (map constructor_of c.args.constructors.now) (map plain_of c.args.args.now)
    (left_none constructor_of c.args.constructors.now c.args.constructors.now c.loop-constructor.constructor-index refl c.loop-constructor-test.false) c.loop-constructor.invariant
