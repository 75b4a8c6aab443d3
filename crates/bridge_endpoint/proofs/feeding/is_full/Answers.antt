use Rattle.std.proofs.Common.{sym, ◌∙◌}
use Rattle.bridge_endpoint.proofs.EndLemmas.{filled, not_filled}
use Rattle.bridge_endpoint.proofs.FeedLemmas.{full_by_bytes, full_by_entries, full_by_none}
use Rattle.bridge_endpoint.proofs.feeding.is_full.Goals as goal

pub returns-then-entries-ge-MOST_ENTRIES : goal.returns-then-entries-ge-MOST_ENTRIES
returns-then-entries-ge-MOST_ENTRIES c =
    full_by_entries c.args.state.now.side c.args.piece.now (filled c.args.state.now.side c.entries.result c.entries.ensures c.if-entries-ge-MOST_ENTRIES.true)

pub returns-then-not-is_empty : goal.returns-then-not-is_empty
returns-then-not-is_empty c =
    full_by_bytes c.args.state.now.side c.args.piece.now c.fed.result (not_filled c.args.state.now.side c.entries.result c.entries.ensures c.if-entries-ge-MOST_ENTRIES.false)
    (sym c.is_empty.ensures ∙ c.if-not-is_empty.true) c.fed.ensures.fed

pub returns-else-not-is_empty : goal.returns-else-not-is_empty
returns-else-not-is_empty c =
    full_by_none c.args.state.now.side c.args.piece.now c.is_empty.result (not_filled c.args.state.now.side c.entries.result c.entries.ensures c.if-entries-ge-MOST_ENTRIES.false) c.is_empty.ensures
    c.if-not-is_empty.false
