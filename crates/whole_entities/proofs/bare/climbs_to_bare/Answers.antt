use Rattle.std.proofs.Common.{false, arith}
use Rattle.std.proofs.lemmas.List.{length-map}
use Rattle.uno_entities.specs.Entities.{entities_of, entity_of}
use Rattle.rules_over_bases.proofs.ClimbLemmas.{climb_begins, climb_fails, climb_steps, climb_tells}
use Rattle.whole_entities.proofs.BareLemmas.{bare_at}
use Rattle.whole_entities.proofs.bare.climbs_to_bare.Goals as goal

pub loop-init : goal.loop-init
loop-init c =
    let long = length-map c.args.entities.now entity_of in
    climb_begins (entities_of c.args.entities.now) c.args.place _ c.requires.no_circle (omega (arith, c.requires.place, long)) (omega (arith, long))

pub returns-then-bare-at : goal.returns-then-bare-at
returns-then-bare-at c = λ yes.
    climb_tells (entities_of c.args.entities.now) c.args.place c.loop.at _ false c.loop.invariant
    (bare_at (entities_of c.args.entities.now) c.args.bare.now c.loop.at _ c.requires.bare c.loop.invariant.within c.if-bare-at.true)

pub returns-in_default : goal.returns-in_default
returns-in_default c = λ yes.
    climb_fails c.args.entities.now c.args.place c.loop.at _ _ _ _ c.requires.rising c.requires.no_circle c.loop.invariant c.needs_base.ensures
    c.if-not-needs_base.false c.in_default.ensures

pub loop-preserved : goal.loop-preserved
loop-preserved c =
    climb_steps c.args.entities.now c.args.place c.loop.at c.in-Some.base _ _ _ _ _ c.requires.rising c.requires.no_circle c.loop.invariant
    (omega (arith, c.loop-test.true)) c.needs_base.ensures c.if-not-needs_base.false c.in-Some.ensures
