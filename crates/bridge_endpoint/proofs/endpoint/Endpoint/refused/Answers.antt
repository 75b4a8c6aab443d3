use Rattle.std.proofs.Common.{◌≡◌, true, false, sym, ◌∙◌}
use Rattle.bridge_model.specs.Entries.{full}
use Rattle.bridge_model.specs.Sides.{stands}
use Rattle.bridge_model.specs.Steps.{has_entries}
use Rattle.bridge_model.specs.declared.cause.Cause.TheVariants as cause
use Rattle.bridge_setting.specs.Settings.{setting_of}
use Rattle.bridge_endpoint.proofs.EndLemmas.{end_kept, end_room, filled, is_limit, may_fill_entries, not_filled}
use Rattle.bridge_endpoint.proofs.EntryLemmas.{entry_seen, from_now, to_now}
use Rattle.bridge_endpoint.proofs.endpoint.Endpoint.refused.Goals as goal

pub end-requires-clause-room : goal.end-requires-clause-room
end-requires-clause-room c =
    let g = setting_of c.self.inside.setting in
    let up : stands c.self.inside.state.side ≡ true = from_now (λ g s. stands s ≡ true) c.self.invariant c.self.view_is (sym c.stands.ensures ∙ c.if-not-stands.false) in
    end_room c.self.invariant full cause.Full (is_limit g) (may_fill_entries g c.self.inside.state.side up (filled c.self.inside.state.side c.entries.result c.entries.ensures c.if-entries-ge-MOST_ENTRIES.true))

pub invariant_of-self : goal.invariant_of-self
invariant_of-self c =
    let g = setting_of c.self.inside.setting in
    let up : stands c.self.inside.state.side ≡ true = from_now (λ g s. stands s ≡ true) c.self.invariant c.self.view_is (sym c.stands.ensures ∙ c.if-not-stands.false) in
    end_kept c.self.invariant full cause.Full (is_limit g) (may_fill_entries g c.self.inside.state.side up (filled c.self.inside.state.side c.entries.result c.entries.ensures c.if-entries-ge-MOST_ENTRIES.true))
    c.end.new.state c.end.new.journal c.end.ensures.ended c.end.ensures.entered

pub returns-then-entries-ge-MOST_ENTRIES-clause-refused : goal.returns-then-entries-ge-MOST_ENTRIES-clause-refused
returns-then-entries-ge-MOST_ENTRIES-clause-refused c = (
  sym c.stands.ensures ∙ c.if-not-stands.false,
  to_now (λ g s. has_entries s ≡ true) c.self.invariant c.self.view_is (filled c.self.inside.state.side c.entries.result c.entries.ensures c.if-entries-ge-MOST_ENTRIES.true),
  entry_seen c.self.inside.journal full c.end.new.journal c.self.view_is c.end.ensures.entered,
)

pub returns-clause-within : goal.returns-clause-within
returns-clause-within c = to_now (λ g s. has_entries s ≡ false) c.self.invariant c.self.view_is (not_filled c.self.inside.state.side c.entries.result c.entries.ensures c.if-entries-ge-MOST_ENTRIES.false)
