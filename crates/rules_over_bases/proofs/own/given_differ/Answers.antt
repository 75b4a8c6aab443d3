use Rattle.rules_over_bases.proofs.OwnLemmas.{params_repeat, rest_differs}
use Rattle.rules_over_bases.proofs.own.given_differ.Goals as goal

pub returns-then-not-branch : goal.returns-then-not-branch
returns-then-not-branch c =
    params_repeat c.args.constructor.now _ _ _ _ c.new-seen.ensures c.as_slice.ensures.value c.in_ok-add_all.ensures c.if-not-branch.true

pub returns : goal.returns
returns c =
    rest_differs c.args.constructor.now _ _ _ _ _ c.add_rest.result c.new-seen.ensures c.as_slice.ensures.value c.in_ok-add_all.ensures c.if-not-branch.false
    c.add_rest.ensures
