use Rattle.std.proofs.Common.{true, arith}
use Rattle.std.proofs.lemmas.List.{length-map}
use Rattle.uno_entities.specs.Entities.{entities_of, entity_of}
use Rattle.rules_over_bases.proofs.ClimbLemmas.{climb_begins, climb_tells, climb_ends, climb_fails, climb_steps, never_ends, known_at}
use Rattle.rules_over_bases.proofs.member.climbs_to_member.Goals as goal

pub loop-init : goal.loop-init
loop-init c =
    let long = length-map c.args.entities.now entity_of in
    climb_begins (entities_of c.args.entities.now) c.args.place _ c.requires.no_circle (omega (arith, c.requires.place, long)) (omega (arith, long))

pub returns-then-known-at : goal.returns-then-known-at
returns-then-known-at c =
    climb_tells (entities_of c.args.entities.now) c.args.place c.loop.at _ true c.loop.invariant
    (known_at (entities_of c.args.entities.now) c.args.known.now c.loop.at _ c.requires.before c.loop.invariant.within c.if-known-at.true)

pub returns-then-not-needs_base : goal.returns-then-not-needs_base
returns-then-not-needs_base c =
    climb_ends c.args.entities.now c.args.place c.loop.at _ _ _ c.requires.rising c.requires.no_circle c.loop.invariant c.needs_base.ensures c.if-not-needs_base.true

pub returns-in_default : goal.returns-in_default
returns-in_default c =
    climb_fails c.args.entities.now c.args.place c.loop.at _ _ _ _ c.requires.rising c.requires.no_circle c.loop.invariant c.needs_base.ensures
    c.if-not-needs_base.false c.in_default.ensures

pub loop-preserved : goal.loop-preserved
loop-preserved c =
    climb_steps c.args.entities.now c.args.place c.loop.at c.in-Some.base _ _ _ _ _ c.requires.rising c.requires.no_circle c.loop.invariant
    (omega (arith, c.loop-test.true)) c.needs_base.ensures c.if-not-needs_base.false c.in-Some.ensures

pub returns : goal.returns
returns c =
    absurd (never_ends (entities_of c.args.entities.now) c.args.place c.loop.at _ c.loop.invariant (omega (arith, c.loop-test.false)))
