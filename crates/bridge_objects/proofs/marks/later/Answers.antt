use Rattle.std.proofs.Common.{◌∙◌, ap, arith, ◌++◌}
use Rattle.std.specs.Fmt.{decimal}
use Rattle.table_model.specs.Objects.{object}
use Rattle.bridge_objects.proofs.Lists.{at_none}
use Rattle.bridge_objects.proofs.Numbers.{no_living, no_later}
use Rattle.bridge_objects.proofs.marks.later.Goals as goal

pub returns-then-made-first-clause-none : goal.returns-then-made-first-clause-none
returns-then-made-first-clause-none c n late is =
    let made = c.made-made.ensures.made in
    let early = c.if-made-first.true in
    c.made-made.ensures.given n (omega (arith, made, early, late))

pub returns-then-number-first-clause-none : goal.returns-then-number-first-clause-none
returns-then-number-first-clause-none c n late is =
    let made = c.made-made.ensures.made in
    no_later (λ n. object n c.args.store.now) c.args.prefix.now c.args.oid.now c.args.store.now.made c.args.first c.in_ok-number.number (omega (arith, made)) c.in_ok-number.ensures.few c.made-made.ensures.given
    (c.in_ok-number.ensures.some ∙ ap (λ prefix. prefix ++ decimal c.in_ok-number.number) c.as_str.ensures) c.if-number-first.true n late is

pub returns-then-number-made-clause-none : goal.returns-then-number-made-clause-none
returns-then-number-made-clause-none c n late is =
    let made = c.made-made.ensures.made in
    let above = c.if-number-made.true in
    no_living (λ n. object n c.args.store.now) c.args.prefix.now c.args.oid.now c.args.store.now.made c.in_ok-number.number (omega (arith, made)) c.in_ok-number.ensures.few c.made-made.ensures.given
    (c.in_ok-number.ensures.some ∙ ap (λ prefix. prefix ++ decimal c.in_ok-number.number) c.as_str.ensures) (c.made-made.ensures.given c.in_ok-number.number (omega (arith, made, above))) n is

pub returns-in_err-object-clause-none : goal.returns-in_err-object-clause-none
returns-in_err-object-clause-none c =
    let made = c.made-made.ensures.made in
    at_none c.from_residual-in_err-object.result
    (λ n late. no_living (λ n. object n c.args.store.now) c.args.prefix.now c.args.oid.now c.args.store.now.made c.in_ok-number.number (omega (arith, made)) c.in_ok-number.ensures.few c.made-made.ensures.given
    (c.in_ok-number.ensures.some ∙ ap (λ prefix. prefix ++ decimal c.in_ok-number.number) c.as_str.ensures) c.in_err-object.ensures.none n)
