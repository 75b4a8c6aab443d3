use Rattle.std.proofs.Common.{map, refl, ◌∙◌, arith}
use Rattle.plan_lines.specs.Terms.{term_of}
use Rattle.type_registry.specs.Functions.{lent_function}
use Rattle.plan_checks.proofs.CheckLemmas.{gives_on}
use Rattle.plan_checks.proofs.ParamLemmas.{argument_begins, argument_lacks, argument_stops, argument_goes, argument_left, argument_ends}
use Rattle.plan_checks.proofs.checker.Checker.arguments_of.Goals as goal

pub loop-term-init : goal.loop-term-init
loop-term-init c = argument_begins _ _ _ (lent_function c.args.called.now).params (map term_of c.args.terms.now) c.new-all.ensures.items

pub returns-in_default : goal.returns-in_default
returns-in_default c = (argument_lacks _ _ _ _ _ _ _ _ _ c.loop-term-test.true c.term-item.is (c.len.ensures ∙ c.loop-term.all.ok.0) c.in_default.ensures c.loop-term.invariant, refl)

pub returns-in_err-argument : goal.returns-in_err-argument
returns-in_err-argument c =
    gives_on _ c.from_residual.result c.in_err-argument.field-0.0 _ c.from_residual.ensures
    (argument_stops _ _ _ _ _ _ _ _ _ c.in_err-argument.field-0.0 _ c.loop-term-test.true c.term-item.is (c.len.ensures ∙ c.loop-term.all.ok.0) c.in-Some.ensures c.in_err-argument.ensures c.loop-term.invariant)

pub loop-term-preserved : goal.loop-term-preserved
loop-term-preserved c =
    argument_goes _ _ _ _ _ _ _ _ _ _ _ _ c.loop-term-test.true c.term-item.is (c.len.ensures ∙ c.loop-term.all.ok.0) c.in-Some.ensures c.in_ok-argument.ensures c.in_ok-push.ensures.items c.loop-term.invariant

pub returns-then-len-count : goal.returns-then-len-count
returns-then-len-count c = (
  argument_left _ _ (lent_function c.args.called.now).params c.args.terms.now c.loop-term.term-index _ c.loop-term.all.items c.loop-term-test.false (omega (arith, c.loop-term.all.ok.0))
      c.loop-term.invariant,
  refl,
)

pub returns : goal.returns
returns c =
    argument_ends _ _ (lent_function c.args.called.now).params c.args.terms.now c.loop-term.term-index _ c.loop-term.all.items c.loop-term-test.false (omega (arith, c.loop-term.all.ok.0))
    c.loop-term.invariant
