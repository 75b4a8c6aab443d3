use Rattle.std.proofs.Common.{refl, rules, arith}
use Rattle.uno_values.proofs.FitLemmas.{untrue, neither, through, too_few, level_parts, at_root, at_base, at_end}
use Rattle.uno_values.proofs.FitLemmas.{all_lost, all_but_one, all_passed, each_lost, each_but_one, each_passed}
use Rattle.uno_values.proofs.fitting.+fits.Goals as goal

pub members_fit-returns-in_default : goal.members_fit-returns-in_default
members_fit-returns-in_default t c =
    through (neither (too_few _ _ _ _ _ _ c.loop-left-test.true c.level.ensures c.in_default.ensures)) c.loop-left.invariant.2

pub members_fit-returns : goal.members_fit-returns
members_fit-returns t c = through (at_end _ _ _ _ _ (omega (arith, c.loop-left-test.false)) c.loop-left.invariant.1) c.loop-left.invariant.2

pub members_fit-returns-then-not-own_fit : goal.members_fit-returns-then-not-own_fit
members_fit-returns-then-not-own_fit t c =
    through (neither (λ fit. untrue (c.if-not-own_fit.ensures.1 (level_parts _ _ _ _ _ _ _ c.loop-left-test.true c.level.ensures
    (omega (arith, c.in-Some.ensures.0, c.in-Some.ensures.1)) c.loop-left.invariant.1 fit).1))) c.loop-left.invariant.2

pub members_fit-returns-in_default-base : goal.members_fit-returns-in_default-base
members_fit-returns-in_default-base t c =
    through (at_root _ _ _ _ _ _ _ c.loop-left-test.true c.level.ensures c.in_default-base.is (omega (arith, c.in-Some.ensures.0, c.in-Some.ensures.1)) c.loop-left.invariant.1
    (c.if-not-own_fit.ensures.0 refl)) c.loop-left.invariant.2

pub members_fit-loop-left-preserved : goal.members_fit-loop-left-preserved
members_fit-loop-left-preserved t c = (
  search rules,
  omega (arith, c.loop-left.invariant.1, c.in-Some.ensures.0, c.in-Some.ensures.1),
  through (at_base _ _ _ _ _ _ _ _ c.loop-left-test.true c.level.ensures c.in-Some-base.is (omega (arith, c.in-Some.ensures.0, c.in-Some.ensures.1)) c.loop-left.invariant.1
      (c.if-not-own_fit.ensures.0 refl)) c.loop-left.invariant.2,
)

pub all_fit-returns-then-not-fits : goal.all_fit-returns-then-not-fits
all_fit-returns-then-not-fits t c = through (all_lost _ _ _ _ _ c.loop-element-test.true c.element-item.is (λ fit. untrue (c.if-not-fits.ensures.1 fit))) c.loop-element.invariant

pub all_fit-loop-element-preserved : goal.all_fit-loop-element-preserved
all_fit-loop-element-preserved t c = through (all_but_one _ _ _ _ _ c.loop-element-test.true c.element-item.is (c.if-not-fits.ensures.0 refl)) c.loop-element.invariant

pub all_fit-returns : goal.all_fit-returns
all_fit-returns t c = through (all_passed _ _ _ _ c.loop-element-test.false) c.loop-element.invariant

pub own_fit-returns-then-not-fits : goal.own_fit-returns-then-not-fits
own_fit-returns-then-not-fits t c =
    through (each_lost _ c.args.fields.now c.loop-field.field-index _ c.args.members.now c.loop-field.place _ c.loop-field-test.true c.field-item.is (omega arith) c.index-members-place.is (λ fit. untrue (c.if-not-fits.ensures.1 fit))) c.loop-field.invariant.1

pub own_fit-loop-field-preserved : goal.own_fit-loop-field-preserved
own_fit-loop-field-preserved t c = (
  omega arith,
  through (each_but_one _ c.args.fields.now c.loop-field.field-index _ c.args.members.now c.loop-field.place _ c.loop-field-test.true c.field-item.is (omega arith) c.index-members-place.is (c.if-not-fits.ensures.0 refl)) c.loop-field.invariant.1,
)

pub own_fit-returns : goal.own_fit-returns
own_fit-returns t c = through (each_passed _ c.args.fields.now c.loop-field.field-index c.args.members.now c.loop-field.place c.loop-field-test.false) c.loop-field.invariant.1
