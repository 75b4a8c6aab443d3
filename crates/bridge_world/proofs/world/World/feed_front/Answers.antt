use Rattle.std.proofs.Common.{◌≡◌, ◌≢◌, sym, ap, ◌∙◌, subst, ℕ, ◌+◌, List, length, take, drop}
use Rattle.bridge_endpoint.specs.Answering.{fed_told}
use Rattle.bridge_model.specs.Answers.{feed_answer, no_room}
use Rattle.bridge_world.specs.Joined.{end_at, joined, taken_with}
use Rattle.bridge_world.specs.Worlds.{IsWorld}
use Rattle.bridge_world.proofs.EndCalls.{calls_a, calls_b, is_seen, marked_a, marked_b, world_a, world_b}
use Rattle.bridge_world.proofs.PipingCalls.{fed_seen, goes_in, on_way_a, on_way_b, whole_at_a, whole_at_b}
use Rattle.bridge_world.proofs.world.World.feed_front.Goals as goal

pub returns-in-A-clause-answer : goal.returns-in-A-clause-answer
returns-in-A-clause-answer c =
    let w = c.self.inside in
    let m = c.mark.new.end in
    let before = marked_a w.a w.b w.to_a.items w.to_b.items c.self.invariant c.args.self.now c.self.view_is c.args.side c.in-A.is m c.mark.ensures in
    is_seen m (end_at c.args.self.now c.args.side) before (λ g z. fed_told c.feed.result ≢ no_room → fed_told c.feed.result ≡ feed_answer g z c.args.piece.now) c.feed.ensures.answer

pub returns-in-A-clause-entered : goal.returns-in-A-clause-entered
returns-in-A-clause-entered c =
    let w = c.self.inside in
    let m = c.mark.new.end in
    let e = c.feed.new.end in
    let r = c.feed.result in
    let whole = whole_at_a w.a w.b w.to_a.items w.to_b.items c.self.invariant c.args.self.now c.self.view_is c.know.ensures.a c.know.ensures.b (length w.a.entries + length w.b.entries) m c.mark.ensures in
    let goes = goes_in m w.to_a.items w.to_b.items (c.args.piece.now) (length c.args.piece.now) (c.requires ∙ ap (take (length c.args.piece.now)) (on_way_a w.a w.b w.to_a.items w.to_b.items c.self.invariant c.args.self.now c.self.view_is c.args.side c.in-A.is)) r c.feed.ensures.answer whole e c.feed.ensures.entered in
    let calls = calls_a w.a w.b w.to_a.items w.to_b.items c.self.invariant c.args.self.now c.self.view_is c.args.side c.in-A.is m c.mark.ensures e (drop (taken_with r) w.to_a.items) w.to_b.items goes in
    fed_seen c.args.side c.args.self.now (joined e w.b) m e calls r c.args.piece.now c.feed.ensures.entered

pub returns-in-A-clause-others : goal.returns-in-A-clause-others
returns-in-A-clause-others c =
    let w = c.self.inside in
    let m = c.mark.new.end in
    let e = c.feed.new.end in
    let r = c.feed.result in
    let whole = whole_at_a w.a w.b w.to_a.items w.to_b.items c.self.invariant c.args.self.now c.self.view_is c.know.ensures.a c.know.ensures.b (length w.a.entries + length w.b.entries) m c.mark.ensures in
    let goes = goes_in m w.to_a.items w.to_b.items (c.args.piece.now) (length c.args.piece.now) (c.requires ∙ ap (take (length c.args.piece.now)) (on_way_a w.a w.b w.to_a.items w.to_b.items c.self.invariant c.args.self.now c.self.view_is c.args.side c.in-A.is)) r c.feed.ensures.answer whole e c.feed.ensures.entered in
    let calls = calls_a w.a w.b w.to_a.items w.to_b.items c.self.invariant c.args.self.now c.self.view_is c.args.side c.in-A.is m c.mark.ensures e (drop (taken_with r) w.to_a.items) w.to_b.items goes in
    calls.others

pub returns-in-A-clause-history : goal.returns-in-A-clause-history
returns-in-A-clause-history c =
    let w = c.self.inside in
    let m = c.mark.new.end in
    let e = c.feed.new.end in
    let r = c.feed.result in
    let whole = whole_at_a w.a w.b w.to_a.items w.to_b.items c.self.invariant c.args.self.now c.self.view_is c.know.ensures.a c.know.ensures.b (length w.a.entries + length w.b.entries) m c.mark.ensures in
    let goes = goes_in m w.to_a.items w.to_b.items (c.args.piece.now) (length c.args.piece.now) (c.requires ∙ ap (take (length c.args.piece.now)) (on_way_a w.a w.b w.to_a.items w.to_b.items c.self.invariant c.args.self.now c.self.view_is c.args.side c.in-A.is)) r c.feed.ensures.answer whole e c.feed.ensures.entered in
    let calls = calls_a w.a w.b w.to_a.items w.to_b.items c.self.invariant c.args.self.now c.self.view_is c.args.side c.in-A.is m c.mark.ensures e (drop (taken_with r) w.to_a.items) w.to_b.items goes in
    calls.grows

pub invariant_of-self : goal.invariant_of-self
invariant_of-self c =
    let w = c.self.inside in
    let m = c.mark.new.end in
    let e = c.feed.new.end in
    let r = c.feed.result in
    let whole = whole_at_a w.a w.b w.to_a.items w.to_b.items c.self.invariant c.args.self.now c.self.view_is c.know.ensures.a c.know.ensures.b (length w.a.entries + length w.b.entries) m c.mark.ensures in
    let goes = goes_in m w.to_a.items w.to_b.items (c.args.piece.now) (length c.args.piece.now) (c.requires ∙ ap (take (length c.args.piece.now)) (on_way_a w.a w.b w.to_a.items w.to_b.items c.self.invariant c.args.self.now c.self.view_is c.args.side c.in-A.is)) r c.feed.ensures.answer whole e c.feed.ensures.entered in
    subst (λ (ws : List ℕ). IsWorld e w.b ws w.to_b.items) (sym c.feed.ensures.taken) (world_a w.a w.b w.to_a.items w.to_b.items c.self.invariant c.args.self.now c.self.view_is c.args.side c.in-A.is m c.mark.ensures e (drop (taken_with r) w.to_a.items) w.to_b.items goes)

pub returns-in-B-clause-answer : goal.returns-in-B-clause-answer
returns-in-B-clause-answer c =
    let w = c.self.inside in
    let m = c.mark-in-B.new.end in
    let before = marked_b w.a w.b w.to_a.items w.to_b.items c.self.invariant c.args.self.now c.self.view_is c.args.side c.in-B.is m c.mark-in-B.ensures in
    is_seen m (end_at c.args.self.now c.args.side) before (λ g z. fed_told c.feed-in-B.result ≢ no_room → fed_told c.feed-in-B.result ≡ feed_answer g z c.args.piece.now) c.feed-in-B.ensures.answer

pub returns-in-B-clause-entered : goal.returns-in-B-clause-entered
returns-in-B-clause-entered c =
    let w = c.self.inside in
    let m = c.mark-in-B.new.end in
    let e = c.feed-in-B.new.end in
    let r = c.feed-in-B.result in
    let whole = whole_at_b w.a w.b w.to_a.items w.to_b.items c.self.invariant c.args.self.now c.self.view_is c.know.ensures.a c.know.ensures.b (length w.b.entries + length w.a.entries) m c.mark-in-B.ensures in
    let goes = goes_in m w.to_b.items w.to_a.items (c.args.piece.now) (length c.args.piece.now) (c.requires ∙ ap (take (length c.args.piece.now)) (on_way_b w.a w.b w.to_a.items w.to_b.items c.self.invariant c.args.self.now c.self.view_is c.args.side c.in-B.is)) r c.feed-in-B.ensures.answer whole e c.feed-in-B.ensures.entered in
    let calls = calls_b w.a w.b w.to_a.items w.to_b.items c.self.invariant c.args.self.now c.self.view_is c.args.side c.in-B.is m c.mark-in-B.ensures e (drop (taken_with r) w.to_b.items) w.to_a.items goes in
    fed_seen c.args.side c.args.self.now (joined w.a e) m e calls r c.args.piece.now c.feed-in-B.ensures.entered

pub returns-in-B-clause-others : goal.returns-in-B-clause-others
returns-in-B-clause-others c =
    let w = c.self.inside in
    let m = c.mark-in-B.new.end in
    let e = c.feed-in-B.new.end in
    let r = c.feed-in-B.result in
    let whole = whole_at_b w.a w.b w.to_a.items w.to_b.items c.self.invariant c.args.self.now c.self.view_is c.know.ensures.a c.know.ensures.b (length w.b.entries + length w.a.entries) m c.mark-in-B.ensures in
    let goes = goes_in m w.to_b.items w.to_a.items (c.args.piece.now) (length c.args.piece.now) (c.requires ∙ ap (take (length c.args.piece.now)) (on_way_b w.a w.b w.to_a.items w.to_b.items c.self.invariant c.args.self.now c.self.view_is c.args.side c.in-B.is)) r c.feed-in-B.ensures.answer whole e c.feed-in-B.ensures.entered in
    let calls = calls_b w.a w.b w.to_a.items w.to_b.items c.self.invariant c.args.self.now c.self.view_is c.args.side c.in-B.is m c.mark-in-B.ensures e (drop (taken_with r) w.to_b.items) w.to_a.items goes in
    calls.others

pub returns-in-B-clause-history : goal.returns-in-B-clause-history
returns-in-B-clause-history c =
    let w = c.self.inside in
    let m = c.mark-in-B.new.end in
    let e = c.feed-in-B.new.end in
    let r = c.feed-in-B.result in
    let whole = whole_at_b w.a w.b w.to_a.items w.to_b.items c.self.invariant c.args.self.now c.self.view_is c.know.ensures.a c.know.ensures.b (length w.b.entries + length w.a.entries) m c.mark-in-B.ensures in
    let goes = goes_in m w.to_b.items w.to_a.items (c.args.piece.now) (length c.args.piece.now) (c.requires ∙ ap (take (length c.args.piece.now)) (on_way_b w.a w.b w.to_a.items w.to_b.items c.self.invariant c.args.self.now c.self.view_is c.args.side c.in-B.is)) r c.feed-in-B.ensures.answer whole e c.feed-in-B.ensures.entered in
    let calls = calls_b w.a w.b w.to_a.items w.to_b.items c.self.invariant c.args.self.now c.self.view_is c.args.side c.in-B.is m c.mark-in-B.ensures e (drop (taken_with r) w.to_b.items) w.to_a.items goes in
    calls.grows

pub invariant_of-self-in-B : goal.invariant_of-self-in-B
invariant_of-self-in-B c =
    let w = c.self.inside in
    let m = c.mark-in-B.new.end in
    let e = c.feed-in-B.new.end in
    let r = c.feed-in-B.result in
    let whole = whole_at_b w.a w.b w.to_a.items w.to_b.items c.self.invariant c.args.self.now c.self.view_is c.know.ensures.a c.know.ensures.b (length w.b.entries + length w.a.entries) m c.mark-in-B.ensures in
    let goes = goes_in m w.to_b.items w.to_a.items (c.args.piece.now) (length c.args.piece.now) (c.requires ∙ ap (take (length c.args.piece.now)) (on_way_b w.a w.b w.to_a.items w.to_b.items c.self.invariant c.args.self.now c.self.view_is c.args.side c.in-B.is)) r c.feed-in-B.ensures.answer whole e c.feed-in-B.ensures.entered in
    subst (λ (ws : List ℕ). IsWorld w.a e w.to_a.items ws) (sym c.feed-in-B.ensures.taken) (world_b w.a w.b w.to_a.items w.to_b.items c.self.invariant c.args.self.now c.self.view_is c.args.side c.in-B.is m c.mark-in-B.ensures e (drop (taken_with r) w.to_b.items) w.to_a.items goes)
