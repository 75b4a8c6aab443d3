use Rattle.std.proofs.Common.{◌-◌, ◌+◌, ◌∙◌, length, map, ap, arith}
use Rattle.std.proofs.lemmas.List.{map-append}
use Rattle.plan_reading_model.specs.TermReading.{term_at}
use Rattle.plan_lines.specs.Terms.{term_of}
use Rattle.plan_lines.proofs.TermLemmas.{term_fails, term_alone, term_last, term_lost, term_next, terms_end, handed_over}
use Rattle.plan_lines.proofs.arguments.push_arguments.Goals as goal

pub returns-in_err-argument : goal.returns-in_err-argument
returns-in_err-argument c =
    handed_over _ c.from_residual.result c.in_err-argument.field-0.0 _ c.from_residual.ensures
    (term_fails (length c.args.bytes.now - c.loop.counter) (term_at c.args.words.now) 41 c.loop.rest.now (map term_of c.loop.arguments.items) _ c.in_err-argument.field-0.0 (omega arith) c.in_err-argument.ensures c.loop.invariant)

pub returns-in_default : goal.returns-in_default
returns-in_default c =
    term_alone (length c.args.bytes.now - c.loop.counter) (term_at c.args.words.now) 41 c.loop.rest.now c.in_ok-argument.behind.now (term_of c.in_ok-argument.argument) (map term_of c.loop.arguments.items) _ (omega arith) c.in_ok-argument.ensures
    c.in_default.ensures.cases c.loop.invariant

pub returns-then-first-eq41 : goal.returns-then-first-eq41
returns-then-first-eq41 c =
    term_last (length c.args.bytes.now - c.loop.counter) (term_at c.args.words.now) 41 c.loop.rest.now c.in_ok-argument.behind.now c.in-Some.next.now c.in-Some.first.now (term_of c.in_ok-argument.argument) (map term_of c.loop.arguments.items) _ _ (omega arith)
    c.in_ok-argument.ensures c.in-Some.ensures.cases.0 c.if-first-eq41.true (ap (map term_of) c.in_ok-push.ensures.items ∙ map-append term_of c.loop.arguments.items _) c.loop.invariant

pub returns-then-first-ne44 : goal.returns-then-first-ne44
returns-then-first-ne44 c =
    term_lost (length c.args.bytes.now - c.loop.counter) (term_at c.args.words.now) 41 c.loop.rest.now c.in_ok-argument.behind.now c.in-Some.next.now c.in-Some.first.now (term_of c.in_ok-argument.argument) (map term_of c.loop.arguments.items) _ (omega arith)
    c.in_ok-argument.ensures c.in-Some.ensures.cases.0 c.if-first-eq41.false c.if-first-ne44.true c.loop.invariant

pub loop-preserved : goal.loop-preserved
loop-preserved c =
    term_next (length c.args.bytes.now - c.loop.counter) (length c.args.bytes.now - (c.loop.counter + 1)) (term_at c.args.words.now) 41 c.loop.rest.now c.in_ok-argument.behind.now c.in-Some.next.now c.in-Some.first.now (term_of c.in_ok-argument.argument)
    (map term_of c.loop.arguments.items) _ _ (omega arith) (omega arith) c.in_ok-argument.ensures c.in-Some.ensures.cases.0 c.if-first-eq41.false c.if-first-ne44.false (ap (map term_of) c.in_ok-push.ensures.items ∙ map-append term_of c.loop.arguments.items _) c.loop.invariant

pub returns : goal.returns
returns c =
    terms_end (length c.args.bytes.now - c.loop.counter) (term_at c.args.words.now) 41 c.loop.rest.now (map term_of c.loop.arguments.items) _ (omega arith) c.loop.invariant
