use Rattle.std.proofs.Common.{List, [], ◌∷◌, ◌++◌, refl, ap, ◌∙◌}
use Rattle.uno_entities.specs.Entities.{entities_of}
use Rattle.rules_over_bases.specs.declared.trail.Step.{Step}
use Rattle.rules_over_bases.proofs.TrailLemmas.{begun, not_begun}
use Rattle.rules_over_bases.proofs.trail.begin.Goals as goal

pub returns-then-not-branch-clause-follows : goal.returns-then-not-branch-clause-follows
returns-then-not-branch-clause-follows c =
    not_begun (entities_of c.args.entities.now) c.args.place (record { steps = c.clear.new.self; seen = c.search.new.seen }) _ c.clear.ensures.items c.in_ok-search.ensures.seen

pub returns-clause-follows : goal.returns-clause-follows
returns-clause-follows c =
    let step : Step = record { place = c.args.place; names = c.len-names.result } in
    begun (entities_of c.args.entities.now) c.args.place (record { steps = c.push.new.self; seen = c.search.new.seen }) _ step
    (c.in_ok-push.ensures.items ∙ ap (λ (steps : List Step). steps ++ step ∷ []) c.clear.ensures.items) refl c.len-names.ensures c.in_ok-search.ensures.seen
    c.if-not-branch.false
