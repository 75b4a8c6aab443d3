use Rattle.std.proofs.Common.{◌∙◌, ◌≤◌, ap, arith, length, refl, sym}
use Rattle.std.specs.Str.{bytes_eq}
use Rattle.idl_meant.proofs.LoopLemmas.{next_entity, no_entity, this_entity}
use Rattle.idl_meant.proofs.kinds.entity_named.Goals as goal

pub loop-entity-init : goal.loop-entity-init
loop-entity-init c = refl

pub loop-entity-preserved : goal.loop-entity-preserved
loop-entity-preserved c =
    c.loop-entity.invariant
    ∙ next_entity c.args.name.now c.args.entities.now c.loop-entity.entity-index c.entity-item.result c.loop-entity-test.true c.entity-item.is
    (ap (bytes_eq c.args.name.now) (sym c.as_str.ensures) ∙ sym c.eq.ensures ∙ c.if-eq.false)

pub returns-then-eq : goal.returns-then-eq
returns-then-eq c =
    sym (c.loop-entity.invariant ∙ this_entity c.args.name.now c.args.entities.now c.loop-entity.entity-index c.entity-item.result c.loop-entity-test.true c.entity-item.is
    (ap (bytes_eq c.args.name.now) (sym c.as_str.ensures) ∙ sym c.eq.ensures ∙ c.if-eq.true))

pub returns : goal.returns
returns c =
    let end : length c.args.entities.now ≤ c.loop-entity.entity-index = omega (arith, c.loop-entity-test.false) in
    sym (c.loop-entity.invariant ∙ no_entity c.args.name.now c.args.entities.now c.loop-entity.entity-index end)
