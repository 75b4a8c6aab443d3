use Rattle.std.proofs.Common.{◌∙◌, refl, sym}
use Rattle.graph_order.proofs.WalkLemmas.{advanced_less, advanced_walk, left_less, left_walk}
use Rattle.graph_order.proofs.order.advance.Goals as goal

pub returns-in_default-clause-fine : goal.returns-in_default-clause-fine
returns-in_default-clause-fine c =
    left_walk c.args.graph.now c.args.walk.now (record { reached = c.args.walk.now.reached; way = c.args.walk.now.way; order = c.push.new.self }) c.args.step c.requires.fine
    (sym c.target_at.ensures.value ∙ c.in_default.is) refl refl c.in_ok-push.ensures.items

pub returns-in_default-clause-less : goal.returns-in_default-clause-less
returns-in_default-clause-less c =
    left_less c.args.graph.now c.args.walk.now (record { reached = c.args.walk.now.reached; way = c.args.walk.now.way; order = c.push.new.self }) c.args.step refl refl

pub returns-clause-fine : goal.returns-clause-fine
returns-clause-fine c =
    advanced_walk c.args.graph.now c.args.walk.now (record { reached = c.args.walk.now.reached; way = c.push-2.new.self; order = c.args.walk.now.order }) c.enter.new.walk c.args.step c.in-Some.target
    c.requires.fine (sym c.target_at.ensures.value ∙ c.in-Some.is) refl c.in_ok-push-2.ensures.items refl c.in_ok-enter.ensures

pub returns-clause-less : goal.returns-clause-less
returns-clause-less c =
    advanced_less c.args.graph.now c.args.walk.now (record { reached = c.args.walk.now.reached; way = c.push-2.new.self; order = c.args.walk.now.order }) c.enter.new.walk c.args.step c.in-Some.target
    c.requires.fine (sym c.target_at.ensures.value ∙ c.in-Some.is) refl c.in_ok-push-2.ensures.items c.in_ok-enter.ensures
