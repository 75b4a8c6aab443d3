use Rattle.std.proofs.Common.{sym, ap, map, ◌∙◌}
use Rattle.std.proofs.lemmas.List.{nil_from_length}
use Rattle.uno_entities.specs.Entities.{field_of}
use Rattle.uno_values.specs.Values.{plain_of}
use Rattle.service_manager.proofs.ArgumentLaws.{left_at, left_none, step_taken, step_not, step_none, step_rest}
use Rattle.service_manager.proofs.arguments.takes_all.Goals as goal

pub returns-in_default : goal.returns-in_default
returns-in_default c =
    let front = left_at field_of c.args.constructor.now.params.items c.deref-param-items.result.now c.loop-param.param-index c.param-item.result c.deref-param-items.ensures.value c.loop-param-test.true c.param-item.is in
    step_none c.args.registry.now (field_of c.param-item.result) _ _ c.args.constructor.now.rest (map plain_of c.loop-param.left.now) front (ap (map plain_of) (nil_from_length _ c.in_default.ensures.cases)) ∙ c.loop-param.invariant

pub returns-then-not-takes : goal.returns-then-not-takes
returns-then-not-takes c =
    let front = left_at field_of c.args.constructor.now.params.items c.deref-param-items.result.now c.loop-param.param-index c.param-item.result c.deref-param-items.ensures.value c.loop-param-test.true c.param-item.is in
    step_not c.args.registry.now (field_of c.param-item.result) _ _ c.args.constructor.now.rest (plain_of c.in-Some.arg.now) (map plain_of c.in-Some.others.now) (map plain_of c.loop-param.left.now) front
    (ap (map plain_of) c.in-Some.ensures.cases.0) (sym c.takes.ensures ∙ c.if-not-takes.true) ∙ c.loop-param.invariant

pub loop-param-preserved : goal.loop-param-preserved
loop-param-preserved c =
    let front = left_at field_of c.args.constructor.now.params.items c.deref-param-items.result.now c.loop-param.param-index c.param-item.result c.deref-param-items.ensures.value c.loop-param-test.true c.param-item.is in
    step_taken c.args.registry.now (field_of c.param-item.result) _ _ c.args.constructor.now.rest (plain_of c.in-Some.arg.now) (map plain_of c.in-Some.others.now) (map plain_of c.loop-param.left.now) front
    (ap (map plain_of) c.in-Some.ensures.cases.0) (sym c.takes.ensures ∙ c.if-not-takes.false) ∙ c.loop-param.invariant

pub returns : goal.returns
returns c =
    c.takes_rest.ensures
    ∙ step_rest c.args.registry.now _ c.args.constructor.now.rest (map plain_of c.loop-param.left.now) (left_none field_of c.args.constructor.now.params.items c.deref-param-items.result.now c.loop-param.param-index c.deref-param-items.ensures.value c.loop-param-test.false)
    ∙ c.loop-param.invariant
