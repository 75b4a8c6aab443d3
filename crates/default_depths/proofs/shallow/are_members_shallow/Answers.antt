use Rattle.std.proofs.Common.{arith}
use Rattle.uno_entities.specs.Entities.{entity_of}
use Rattle.default_depths.proofs.DepthLaws.{item_found, none_deep, one_deep, shallow_more}
use Rattle.default_depths.proofs.shallow.are_members_shallow.Goals as goal

pub are_own_shallow-requires-clause-there : goal.are_own_shallow-requires-clause-there
are_own_shallow-requires-clause-there c =
    (item_found c.args.registry.now c.entities-entity-items.result.now c.loop-entity.entity-index c.entity-item.result c.entities-entity-items.ensures.all c.entities-entity-items.ensures.rising c.loop-entity-test.true c.entity-item.is).1

pub returns-then-not-are_own_shallow : goal.returns-then-not-are_own_shallow
returns-then-not-are_own_shallow c =
    one_deep c.args.registry.now c.requires.sound c.entities-entity-items.ensures.rising c.loop-entity.entity-index (entity_of c.entity-item.result) c.are_own_shallow.result
    (item_found c.args.registry.now c.entities-entity-items.result.now c.loop-entity.entity-index c.entity-item.result c.entities-entity-items.ensures.all c.entities-entity-items.ensures.rising c.loop-entity-test.true c.entity-item.is).0
    c.if-not-are_own_shallow.true c.are_own_shallow.ensures

pub loop-entity-preserved : goal.loop-entity-preserved
loop-entity-preserved c =
    shallow_more c.args.registry.now c.loop-entity.entity-index (entity_of c.entity-item.result)
    (item_found c.args.registry.now c.entities-entity-items.result.now c.loop-entity.entity-index c.entity-item.result c.entities-entity-items.ensures.all c.entities-entity-items.ensures.rising c.loop-entity-test.true c.entity-item.is).0
    (c.are_own_shallow.ensures.0 c.if-not-are_own_shallow.false) c.loop-entity.invariant

pub returns : goal.returns
returns c =
    none_deep c.args.registry.now c.requires.sound c.entities-entity-items.ensures.rising c.entities-entity-items.result.now c.loop-entity.entity-index c.entities-entity-items.ensures.all (omega (arith, c.loop-entity-test.false))
    c.loop-entity.invariant
