use Rattle.std.proofs.Common.{◌≡◌, sym, ap, ◌∙◌, true, false}
use Rattle.bridge_model.specs.Answers.{after_feeding, cut, feed_answer, feed_is_full, next_cut}
use Rattle.bridge_model.specs.Entries.{fed, full}
use Rattle.bridge_model.specs.Sides.{stands}
use Rattle.bridge_model.specs.Steps.{does, is_some_bytes, may}
use Rattle.bridge_model.specs.declared.cause.Cause.TheVariants as cause
use Rattle.bridge_setting.specs.Settings.{setting_of}
use Rattle.bridge_endpoint.specs.Answering.{fed_told}
use Rattle.bridge_endpoint.specs.Entering.{fed_by, taking}
use Rattle.bridge_endpoint.specs.Journals.{setting_at, side_at}
use Rattle.bridge_endpoint.proofs.EndLemmas.{end_kept, end_room, is_limit, may_fill, stands_more}
use Rattle.bridge_endpoint.proofs.EntryLemmas.{at, entry_seen_with, from_now, lost_by, lost_kept, lost_room, to_now}
use Rattle.bridge_endpoint.proofs.FeedLemmas.{cut_some, fed_entered, front_cut, front_some, front_within, full_told, gone_told, limit_reached, may_cut, next_cut_none, no_bytes_of, none_told, not_full, some_bytes_of, some_told}
use Rattle.bridge_endpoint.proofs.KeptLaws.{brought_kept, kept_rooted}
use Rattle.bridge_endpoint.proofs.endpoint.Endpoint.feed.Goals as goal

pub returns-then-not-stands-clause-answer : goal.returns-then-not-stands-clause-answer
returns-then-not-stands-clause-answer c some =
    sym (gone_told (setting_at c.args.self.now) (side_at c.args.self.now) c.args.piece.now (sym c.stands.ensures ∙ c.if-not-stands.true) (sym c.lacks_memory.ensures ∙ c.if-lacks_memory.false))

pub end-requires-clause-room : goal.end-requires-clause-room
end-requires-clause-room c =
    let g = setting_of c.self.inside.setting in
    let s = c.self.inside.state.side in
    let piece = c.args.piece.now in
    let up : stands s ≡ true = from_now (λ h z. stands z ≡ true) c.self.invariant c.self.view_is (sym c.stands.ensures ∙ c.if-not-stands.false) in
    end_room c.self.invariant full cause.Full (is_limit g) (may_fill g s up (limit_reached s piece (sym c.is_full.ensures ∙ c.if-is_full.true)))

pub invariant_of-self : goal.invariant_of-self
invariant_of-self c =
    let g = setting_of c.self.inside.setting in
    let s = c.self.inside.state.side in
    let piece = c.args.piece.now in
    let up : stands s ≡ true = from_now (λ h z. stands z ≡ true) c.self.invariant c.self.view_is (sym c.stands.ensures ∙ c.if-not-stands.false) in
    end_kept c.self.invariant full cause.Full (is_limit g) (may_fill g s up (limit_reached s piece (sym c.is_full.ensures ∙ c.if-is_full.true))) c.end.new.state c.end.new.journal c.end.ensures.ended
    c.end.ensures.entered

pub returns-then-is_full-clause-answer : goal.returns-then-is_full-clause-answer
returns-then-is_full-clause-answer c some =
    sym
    (full_told (setting_at c.args.self.now) (side_at c.args.self.now) c.args.piece.now (sym c.stands.ensures ∙ c.if-not-stands.false)
    (to_now (λ h z. feed_is_full z c.args.piece.now ≡ true) c.self.invariant c.self.view_is (sym c.is_full.ensures ∙ c.if-is_full.true)))

pub returns-then-is_empty-clause-answer : goal.returns-then-is_empty-clause-answer
returns-then-is_empty-clause-answer c some =
    let g = setting_at c.args.self.now in
    let s = side_at c.args.self.now in
    let none = no_bytes_of c.args.piece.now (sym c.is_empty.ensures ∙ c.if-is_empty.true) in
    let room_left : feed_is_full s c.args.piece.now ≡ false = to_now (λ h z. feed_is_full z c.args.piece.now ≡ false) c.self.invariant c.self.view_is (sym c.is_full.ensures ∙ c.if-is_full.false) in
    sym (ap (feed_answer g s) none ∙ none_told g s (sym c.stands.ensures ∙ c.if-not-stands.false) (sym (ap (feed_is_full s) none) ∙ room_left))

pub returns-then-is_empty-clause-entered : goal.returns-then-is_empty-clause-entered
returns-then-is_empty-clause-entered c =
    let s = side_at c.args.self.now in
    let none = no_bytes_of c.args.piece.now (sym c.is_empty.ensures ∙ c.if-is_empty.true) in
    sym (ap (λ b. taking b c.args.self.now) (ap (next_cut s) none ∙ next_cut_none s))

pub feed_standing-requires-clause-stands : goal.feed_standing-requires-clause-stands
feed_standing-requires-clause-stands c = from_now (λ h z. stands z ≡ true) c.self.invariant c.self.view_is (sym c.stands.ensures ∙ c.if-not-stands.false)

pub feed_standing-requires-clause-rooted : goal.feed_standing-requires-clause-rooted
feed_standing-requires-clause-rooted c = kept_rooted (setting_of c.self.inside.setting) c.self.inside.setting.names.roots c.self.inside.state c.self.inside.journal c.self.invariant

pub invariant_of-self-in-Ok : goal.invariant_of-self-in-Ok
invariant_of-self-in-Ok c =
    let g = setting_of c.self.inside.setting in
    let s = c.self.inside.state.side in
    let piece = c.args.piece.now in
    let up : stands s ≡ true = from_now (λ h z. stands z ≡ true) c.self.invariant c.self.view_is (sym c.stands.ensures ∙ c.if-not-stands.false) in
    let room_left : feed_is_full s piece ≡ false = sym c.is_full.ensures ∙ c.if-is_full.false in
    let some : is_some_bytes piece ≡ true = some_bytes_of piece (sym c.is_empty.ensures ∙ c.if-is_empty.false) in
    let front = c.split_at.result.0.now in
    let fine : may g s (fed (cut s.incoming.held front)) ≡ true =
    may_cut g s front up (not_full s piece some room_left).0 (front_some s piece front c.fed.result c.saturating_sub-left.result c.min.result c.fed.ensures.fed c.saturating_sub-left.ensures c.min.ensures c.split_at.ensures.front some room_left) (front_within s piece front c.fed.result c.saturating_sub-left.result c.min.result c.fed.ensures.fed c.saturating_sub-left.ensures c.min.ensures c.split_at.ensures.front some room_left) c.fed.ensures.unended in
    brought_kept g c.self.inside.setting.names.roots c.self.inside.state c.self.inside.journal (fed (cut s.incoming.held front)) c.feed_standing.new.state c.feed_standing.new.journal c.self.invariant fine tt
    c.in-Ok.ensures.fed (ap (λ l. l.entries) c.in-Ok.ensures.entered) c.in-Ok.ensures.room (c.in-Ok.ensures.within c.self.invariant.within)

pub run_out-requires-clause-room : goal.run_out-requires-clause-room
run_out-requires-clause-room c =
    let g = setting_of c.self.inside.setting in
    let s = c.self.inside.state.side in
    let piece = c.args.piece.now in
    let up : stands s ≡ true = from_now (λ h z. stands z ≡ true) c.self.invariant c.self.view_is (sym c.stands.ensures ∙ c.if-not-stands.false) in
    let lost = lost_by c.self.invariant up c.feed_standing.new.state c.feed_standing.new.journal c.in-Err.ensures.lost c.in-Err.ensures.names c.in-Err.ensures.nothing c.in-Err.ensures.least c.in-Err.ensures.within in
    lost_room c.self.invariant lost (stands_more s.cause up)

pub invariant_of-self-in-Err : goal.invariant_of-self-in-Err
invariant_of-self-in-Err c =
    let g = setting_of c.self.inside.setting in
    let s = c.self.inside.state.side in
    let piece = c.args.piece.now in
    let up : stands s ≡ true = from_now (λ h z. stands z ≡ true) c.self.invariant c.self.view_is (sym c.stands.ensures ∙ c.if-not-stands.false) in
    let lost = lost_by c.self.invariant up c.feed_standing.new.state c.feed_standing.new.journal c.in-Err.ensures.lost c.in-Err.ensures.names c.in-Err.ensures.nothing c.in-Err.ensures.least c.in-Err.ensures.within in
    lost_kept c.self.invariant lost (stands_more s.cause up) c.run_out.new.state c.run_out.new.journal c.run_out.ensures.ended c.run_out.ensures.entered

pub returns-in-Ok-clause-answer : goal.returns-in-Ok-clause-answer
returns-in-Ok-clause-answer c some_room =
    let g = setting_of c.self.inside.setting in
    let s = c.self.inside.state.side in
    let piece = c.args.piece.now in
    let up : stands s ≡ true = from_now (λ h z. stands z ≡ true) c.self.invariant c.self.view_is (sym c.stands.ensures ∙ c.if-not-stands.false) in
    let room_left : feed_is_full s piece ≡ false = sym c.is_full.ensures ∙ c.if-is_full.false in
    let some : is_some_bytes piece ≡ true = some_bytes_of piece (sym c.is_empty.ensures ∙ c.if-is_empty.false) in
    let front = c.split_at.result.0.now in
    let same = front_cut s piece front c.fed.result c.saturating_sub-left.result c.min.result c.fed.ensures.fed c.saturating_sub-left.ensures c.min.ensures c.split_at.ensures.front some room_left in
    to_now (λ h z. fed_told c.in-Ok.fed ≡ feed_answer h z c.args.piece.now) c.self.invariant c.self.view_is
    (c.in-Ok.ensures.answer ∙ ap (λ e. after_feeding (cut s.incoming.held front) e.side.cause) c.in-Ok.ensures.fed ∙ ap (λ b. after_feeding b (does g (fed b) s).side.cause) same
    ∙ sym (some_told g s piece up room_left some))

pub returns-in-Ok-clause-entered : goal.returns-in-Ok-clause-entered
returns-in-Ok-clause-entered c =
    let g = setting_of c.self.inside.setting in
    let s = c.self.inside.state.side in
    let piece = c.args.piece.now in
    let up : stands s ≡ true = from_now (λ h z. stands z ≡ true) c.self.invariant c.self.view_is (sym c.stands.ensures ∙ c.if-not-stands.false) in
    let room_left : feed_is_full s piece ≡ false = sym c.is_full.ensures ∙ c.if-is_full.false in
    let some : is_some_bytes piece ≡ true = some_bytes_of piece (sym c.is_empty.ensures ∙ c.if-is_empty.false) in
    let front = c.split_at.result.0.now in
    let bytes = cut s.incoming.held front in
    let same = front_cut s piece front c.fed.result c.saturating_sub-left.result c.min.result c.fed.ensures.fed c.saturating_sub-left.ensures c.min.ensures c.split_at.ensures.front some room_left in
    entry_seen_with c.self.inside.journal (fed bytes) c.feed_standing.new.journal.room c.feed_standing.new.journal c.self.view_is c.in-Ok.ensures.entered
    ∙ sym
    (fed_entered c.in-Ok.fed bytes c.feed_standing.new.state.side.cause c.args.self.now c.in-Ok.ensures.answer (cut_some s.incoming.held front (front_some s piece front c.fed.result c.saturating_sub-left.result c.min.result c.fed.ensures.fed c.saturating_sub-left.ensures c.min.ensures c.split_at.ensures.front some room_left)))
    ∙ ap (λ b. fed_by c.in-Ok.fed b c.args.self.now) (same ∙ sym (ap (λ z. next_cut z piece) (at c.self.invariant c.self.view_is)))
