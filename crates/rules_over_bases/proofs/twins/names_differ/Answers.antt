use Rattle.rules_over_bases.proofs.TwinsLemmas.{kinds_known, own_repeat, over_as_asked}
use Rattle.rules_over_bases.proofs.twins.names_differ.Goals as goal

pub returns-then-not-branch-clause-differ : goal.returns-then-not-branch-clause-differ
returns-then-not-branch-clause-differ c =
    own_repeat c.args.entities.now c.args.place c.index-entities-place.result _ c.requires.place c.in_ok-own_names_differ.ensures c.if-not-branch.true

pub returns-clause-differ : goal.returns-clause-differ
returns-clause-differ c =
    over_as_asked c.args.entities.now c.args.place c.index-entities-place.result _ c.names_differ_over.result c.requires.rising
    (kinds_known c.args.entities.now c.requires.kinds) c.requires.no_circle c.requires.place c.in_ok-own_names_differ.ensures c.if-not-branch.false
    c.names_differ_over.ensures.differ
