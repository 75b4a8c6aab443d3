use Rattle.std.proofs.Common.{◌+◌, sym, ap, ◌∙◌, take, arith}
use Rattle.bridge_journal.specs.Logs.{entry_of}
use Rattle.bridge_model.specs.Answers.{cut}
use Rattle.bridge_model.specs.Entries.{fed}
use Rattle.bridge_model.specs.Steps.{does}
use Rattle.bridge_laws.specs.Room.{brought}
use Rattle.bridge_endpoint.proofs.FeedLemmas.{cut_front, cut_short}
use Rattle.bridge_endpoint.proofs.JournalLemmas.{entered_with}
use Rattle.bridge_endpoint.proofs.feeding.feed_standing.Goals as goal

pub fed_entry-requires : goal.fed_entry-requires
fed_entry-requires c =
    let same = c.in_ok-fed.ensures.count in
    let short = cut_short c.args.state.now.side.incoming.held c.args.piece.now in omega (arith, same, short)

pub returns-in-Ok-clause-fed : goal.returns-in-Ok-clause-fed
unfolding does
returns-in-Ok-clause-fed c = c.ended_by.ensures.ended ∙ c.in_ok-fed.ensures.fed

pub returns-in-Ok-clause-entered : goal.returns-in-Ok-clause-entered
returns-in-Ok-clause-entered c =
    let held = c.args.state.now.side.incoming.held in
    let piece = c.args.piece.now in
    entered_with c.args.journal.now c.reserve.new.self c.fed_entry.new.journal c.enter.new.self (c.reserve.new.self.room + c.in_ok-fed.fed.trace.references) (entry_of c.in-Ok.entry) (fed (cut held piece))
    c.in_ok-reserve.ensures.room c.in-Ok.ensures.room c.enter.ensures
    (c.in-Ok.ensures.entry ∙ ap (λ n. fed (take n piece)) c.in_ok-fed.ensures.count ∙ ap fed (sym (cut_front held piece)))

pub returns-in-Ok-clause-room : goal.returns-in-Ok-clause-room
unfolding brought does
returns-in-Ok-clause-room c =
    let first = ap (λ l. l.room) c.in_ok-reserve.ensures.room in
    let second = ap (λ l. l.room) c.in-Ok.ensures.room in
    let third = ap (λ l. l.room) c.enter.ensures in
    let less = c.in_ok-fed.ensures.references in omega (arith, first, second, third, less)
