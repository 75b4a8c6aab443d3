use Rattle.std.proofs.Common.{sym, ap, ◌∙◌}
use Rattle.plan_model.specs.Asking.{queries}
use Rattle.behaviour.proofs.EndingLemmas.{given_too}
use Rattle.behaviour.specs.Calling.{target_of, unless}
use Rattle.behaviour.specs.Effects.{effect_of}
use Rattle.behaviour.specs.Running.{running_of}
use Rattle.behaviour.proofs.calling.queries_with.Goals as goal

pub returns-in-Some : goal.returns-in-Some
returns-in-Some c =
    let e = queries (target_of c.args.target) c.args.query.now.wanted c.args.query.now.to in
    let step = rw (c.deref.ensures.value, c.requires.wanted) at (c.why_unsent-why.ensures c.args.registry.now 0 e) in
    given_too c.fails.result effect_of _ _ (sym (step ∙ ap (λ w. unless c.args.registry.now (running_of c.args.running.now) w e) c.in-Some.is)) c.fails.ensures

pub returns-in-None : goal.returns-in-None
returns-in-None c =
    let e = queries (target_of c.args.target) c.args.query.now.wanted c.args.query.now.to in
    let step = rw (c.deref.ensures.value, c.requires.wanted) at (c.why_unsent-why.ensures c.args.registry.now 0 e) in
    given_too c.makes_query.result effect_of _ _ (sym (step ∙ ap (λ w. unless c.args.registry.now (running_of c.args.running.now) w e) c.in-None.is)) c.makes_query.ensures
