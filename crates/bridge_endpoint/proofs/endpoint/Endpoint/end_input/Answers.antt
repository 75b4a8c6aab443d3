use Rattle.std.proofs.Common.{◌≡◌, true, sym, subst, ◌∙◌}
use Rattle.std.proofs.lemmas.Bool.{true≢false}
use Rattle.bridge_journal.specs.Logs.{entered}
use Rattle.bridge_model.specs.Ends.{ends_by}
use Rattle.bridge_model.specs.Sides.{stands}
use Rattle.bridge_state.specs.EndSides.{on_side}
use Rattle.bridge_setting.specs.Settings.{setting_of}
use Rattle.bridge_endpoint.specs.Entering.{counts_one, how_cause, how_ended}
use Rattle.bridge_endpoint.proofs.EndLemmas.{end_kept, end_room, is_input_end, may_end_input}
use Rattle.bridge_endpoint.proofs.EntryLemmas.{from_now}
use Rattle.bridge_endpoint.proofs.endpoint.Endpoint.end_input.Goals as goal

pub returns-then-not-stands-clause-ended : goal.returns-then-not-stands-clause-ended
returns-then-not-stands-clause-ended c up = absurd (true≢false (sym up ∙ sym c.stands.ensures ∙ c.if-not-stands.true))

pub end-requires-clause-room : goal.end-requires-clause-room
end-requires-clause-room c =
    let g = setting_of c.self.inside.setting in
    let up : stands c.self.inside.state.side ≡ true = from_now (λ g s. stands s ≡ true) c.self.invariant c.self.view_is (sym c.stands.ensures ∙ c.if-not-stands.false) in
    end_room c.self.invariant (how_ended c.args.how) (how_cause c.args.how) (is_input_end g c.args.how) (may_end_input g c.self.inside.state.side c.args.how up)

pub invariant_of-self : goal.invariant_of-self
invariant_of-self c =
    let g = setting_of c.self.inside.setting in
    let up : stands c.self.inside.state.side ≡ true = from_now (λ g s. stands s ≡ true) c.self.invariant c.self.view_is (sym c.stands.ensures ∙ c.if-not-stands.false) in
    end_kept c.self.invariant (how_ended c.args.how) (how_cause c.args.how) (is_input_end g c.args.how) (may_end_input g c.self.inside.state.side c.args.how up) c.end.new.state c.end.new.journal
    (subst (λ w. c.end.new.state ≡ on_side (λ s. counts_one (ends_by w s)) c.self.inside.state) c.cause_of.ensures c.end.ensures.ended)
    (subst (λ x. c.end.new.journal ≡ entered x c.self.inside.journal) c.entry_for.ensures c.end.ensures.entered)

pub returns-clause-kept : goal.returns-clause-kept
returns-clause-kept c ended = absurd (true≢false (sym (sym c.stands.ensures ∙ c.if-not-stands.false) ∙ ended))
