use Rattle.std.proofs.Common.{arith}
use Rattle.uno_entities.specs.Entities.{entities_of}
use Rattle.registry_text_model.specs.NamesDiffer.{names_differ}
use Rattle.rules_over_bases.proofs.FirstLemmas.{first_broken, none_broken}
use Rattle.rules_over_bases.proofs.twins.first_with_twins.Goals as goal

pub returns-then-not-branch : goal.returns-then-not-branch
returns-then-not-branch c =
    first_broken (names_differ (entities_of c.args.entities.now)) c.args.entities.now c.loop-place.place _ c.loop-place-test.true c.loop-place.invariant.before
    c.in_ok-names_differ.ensures.differ c.if-not-branch.true

pub returns : goal.returns
returns c =
    none_broken (names_differ (entities_of c.args.entities.now)) c.args.entities.now c.loop-place.place (omega (arith, c.loop-place-test.false))
    c.loop-place.invariant.before
