use Rattle.std.proofs.Common.{◌≡◌, ℕ, ◌<◌, List, length, None, Some, get_or, slice_get, set, true, refl, subst, sym}
use Rattle.std.proofs.lemmas.Option.{slice_get-get_or}
use Rattle.typedef_chains.specs.Known.{Follows, Linked}
use Rattle.typedef_chains.specs.declared.step.Step.{Step}
use Rattle.typedef_chains.proofs.ChainLemmas.{end_here, linked_behind}
use Rattle.typedef_chains.proofs.KnownLemmas.{met_last, met_on, one_less, seen_low}
use Rattle.typedef_chains.proofs.chains.enter.Goals as goal

step_there : (steps : List Step) (node : ℕ) → node < length steps → slice_get steps node ≡ Some (get_or steps node (record { adds = 0; next = None }))
step_there steps node low = slice_get-get_or steps node (record { adds = 0; next = None }) low

pub returns-in_default-clause-follows : goal.returns-in_default-clause-follows
returns-in_default-clause-follows c =
    met_last c.args.steps.now c.args.most c.args.known.now.seen.items c.args.known.now.ends.items c.args.way.now.items c.args.node c.requires.node c.requires.fresh c.requires.follows
    (record { last = c.args.node; sum = c.limited.result })
    (end_here c.args.steps.now c.args.most c.args.node (get_or c.args.steps.now c.args.node (record { adds = 0; next = None })) (record { last = c.args.node; sum = c.limited.result })
    (step_there c.args.steps.now c.args.node c.requires.node) c.in_default.is refl c.limited.ensures)

pub returns-in_default-clause-less : goal.returns-in_default-clause-less
returns-in_default-clause-less c =
    one_less c.args.known.now.seen.items c.args.node
    (seen_low c.args.steps.now c.args.most c.args.known.now.seen.items c.args.known.now.ends.items c.args.way.now.items c.args.node c.requires.node c.requires.follows) c.requires.fresh

pub returns-clause-at : goal.returns-clause-at
returns-clause-at c =
    c.requires.within c.args.node c.in-Some.next (get_or c.args.steps.now c.args.node (record { adds = 0; next = None })) (step_there c.args.steps.now c.args.node c.requires.node) c.in-Some.is

pub returns-clause-linked : goal.returns-clause-linked
returns-clause-linked c =
    subst (λ xs. Linked c.args.steps.now xs c.in-Some.next) (sym c.in_ok-push.ensures.items)
    (linked_behind c.args.steps.now c.args.way.now.items c.args.node c.in-Some.next c.requires.linked
    (get_or c.args.steps.now c.args.node (record { adds = 0; next = None }), step_there c.args.steps.now c.args.node c.requires.node, c.in-Some.is))

pub returns-clause-follows : goal.returns-clause-follows
returns-clause-follows c =
    subst (λ xs. Follows c.args.steps.now c.args.most (set c.args.known.now.seen.items c.args.node true) c.args.known.now.ends.items xs) (sym c.in_ok-push.ensures.items)
    (met_on c.args.steps.now c.args.most c.args.known.now.seen.items c.args.known.now.ends.items c.args.way.now.items c.args.node c.requires.node c.requires.fresh c.requires.follows)

pub returns-clause-less : goal.returns-clause-less
returns-clause-less c =
    one_less c.args.known.now.seen.items c.args.node
    (seen_low c.args.steps.now c.args.most c.args.known.now.seen.items c.args.known.now.ends.items c.args.way.now.items c.args.node c.requires.node c.requires.follows) c.requires.fresh
