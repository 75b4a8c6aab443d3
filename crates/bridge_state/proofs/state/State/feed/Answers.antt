use Rattle.std.proofs.Common.{ap, ◌∙◌}
use Rattle.bridge_state.proofs.UndoLemmas.{nothing_undone, remains_by}
use Rattle.bridge_state.specs.Undoing.{remains, undone}
use Rattle.bridge_state.proofs.state.State.feed.Goals as goal

pub returns-in-Ok-clause-back : goal.returns-in-Ok-clause-back
returns-in-Ok-clause-back c rooted =
    let t = c.feed_traced.new.trace in
    remains_by t.frames_made (undone t c.feed_traced.new.self.side) c.args.self.now.side (c.feed_traced.ensures.back rooted ∙ nothing_undone c.new-trace.result c.args.self.now.side c.new-trace.ensures.answered)
    (c.feed_traced.ensures.began ∙ c.new-trace.ensures.frames ∙ c.frames_made.ensures ∙ ap (λ e. e.side.tables.frames_made) c.self.view_is)

pub returns-in-Err-clause-lost : goal.returns-in-Err-clause-lost
returns-in-Err-clause-lost c rooted =
    let t = c.feed_traced.new.trace in
    ap (λ e. remains e.side) c.take_back.ensures
    ∙ remains_by t.frames_made (undone t c.feed_traced.new.self.side) c.args.self.now.side (c.feed_traced.ensures.back rooted ∙ nothing_undone c.new-trace.result c.args.self.now.side c.new-trace.ensures.answered)
    (c.feed_traced.ensures.began ∙ c.new-trace.ensures.frames ∙ c.frames_made.ensures ∙ ap (λ e. e.side.tables.frames_made) c.self.view_is)
