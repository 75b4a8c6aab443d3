use Rattle.std.proofs.Common.{◌≡◌, true, sym, ◌∙◌}
use Rattle.std.proofs.lemmas.Bool.{true≢false}
use Rattle.bridge_model.specs.Entries.{disposed}
use Rattle.bridge_model.specs.Sides.{stands}
use Rattle.bridge_model.specs.declared.cause.Cause.TheVariants as cause
use Rattle.bridge_setting.specs.Settings.{setting_of}
use Rattle.bridge_endpoint.proofs.EndLemmas.{end_kept, end_room, is_disposal, may_dispose}
use Rattle.bridge_endpoint.proofs.EntryLemmas.{from_now}
use Rattle.bridge_endpoint.proofs.endpoint.Endpoint.dispose.Goals as goal

pub returns-then-not-stands-clause-disposed : goal.returns-then-not-stands-clause-disposed
returns-then-not-stands-clause-disposed c up = absurd (true≢false (sym up ∙ sym c.stands.ensures ∙ c.if-not-stands.true))

pub end-requires-clause-room : goal.end-requires-clause-room
end-requires-clause-room c =
    let g = setting_of c.self.inside.setting in
    let up : stands c.self.inside.state.side ≡ true = from_now (λ g s. stands s ≡ true) c.self.invariant c.self.view_is (sym c.stands.ensures ∙ c.if-not-stands.false) in
    end_room c.self.invariant disposed cause.Disposed (is_disposal g) (may_dispose g c.self.inside.state.side up)

pub invariant_of-self : goal.invariant_of-self
invariant_of-self c =
    let g = setting_of c.self.inside.setting in
    let up : stands c.self.inside.state.side ≡ true = from_now (λ g s. stands s ≡ true) c.self.invariant c.self.view_is (sym c.stands.ensures ∙ c.if-not-stands.false) in
    end_kept c.self.invariant disposed cause.Disposed (is_disposal g) (may_dispose g c.self.inside.state.side up) c.end.new.state c.end.new.journal c.end.ensures.ended c.end.ensures.entered

pub returns-clause-kept : goal.returns-clause-kept
returns-clause-kept c ended = absurd (true≢false (sym (sym c.stands.ensures ∙ c.if-not-stands.false) ∙ ended))
