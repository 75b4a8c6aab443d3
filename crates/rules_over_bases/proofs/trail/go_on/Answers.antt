use Rattle.std.proofs.Common.{refl, ap}
use Rattle.uno_entities.specs.Entities.{entities_of}
use Rattle.rules_over_bases.specs.Known.{differ_over}
use Rattle.rules_over_bases.specs.OwnNames.{own_names}
use Rattle.rules_over_bases.specs.declared.trail.Step.{Step}
use Rattle.rules_over_bases.proofs.ClimbLemmas.{known_one_more}
use Rattle.rules_over_bases.proofs.FirstLemmas.{body_read}
use Rattle.rules_over_bases.proofs.TrailLemmas.{gone_on, gone_on_differs, not_gone_on}
use Rattle.rules_over_bases.proofs.trail.go_on.Goals as goal

pub returns-then-not-branch-clause-follows : goal.returns-then-not-branch-clause-follows
returns-then-not-branch-clause-follows c =
    not_gone_on (entities_of c.args.entities.now) c.args.base c.go_back.new.self (record { steps = c.go_back.new.self.steps; seen = c.add_own.new.seen }) _ _
    (c.go_back.ensures.stands (entities_of c.args.entities.now) c.requires.follows c.if-not-go_back.false) c.in_ok-add_own.ensures refl

pub returns-clause-after : goal.returns-clause-after
returns-clause-after c =
    known_one_more (differ_over (entities_of c.args.entities.now)) (entities_of c.args.entities.now) c.args.known.now c.args.place c.requires.before
    (gone_on_differs (entities_of c.args.entities.now) c.args.place c.args.base c.go_back.new.self (record { steps = c.go_back.new.self.steps; seen = c.add_own.new.seen })
    _ _ c.requires.rising c.requires.no_circle c.requires.base
    (c.go_back.ensures.stands (entities_of c.args.entities.now) c.requires.follows c.if-not-go_back.false)
    (λ e at. ap own_names (body_read c.args.entities.now c.args.place c.index-entities-place.result c.requires.place e at)) c.in_ok-add_own.ensures c.if-not-branch.false)

pub returns-clause-follows : goal.returns-clause-follows
returns-clause-follows c =
    let step : Step = record { place = c.args.place; names = c.len-names.result } in
    gone_on (entities_of c.args.entities.now) c.args.place c.args.base c.go_back.new.self (record { steps = c.push.new.self; seen = c.add_own.new.seen })
    _ _ c.requires.rising c.requires.no_circle c.requires.base
    (c.go_back.ensures.stands (entities_of c.args.entities.now) c.requires.follows c.if-not-go_back.false)
    (λ e at. ap own_names (body_read c.args.entities.now c.args.place c.index-entities-place.result c.requires.place e at)) c.in_ok-add_own.ensures c.if-not-branch.false
    step c.in_ok-push.ensures.items refl c.len-names.ensures
