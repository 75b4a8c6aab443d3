use Rattle.std.proofs.Common.{◌≡◌, true, false, refl, sym, ap, ◌∙◌}
use Rattle.bridge_model.specs.Entries.{dropped}
use Rattle.bridge_model.specs.Roots.{holds_pair}
use Rattle.bridge_model.specs.Steps.{does}
use Rattle.bridge_setting.specs.Settings.{setting_of}
use Rattle.bridge_state.specs.EndSides.{on_side}
use Rattle.bridge_endpoint.specs.Entering.{counts_one}
use Rattle.bridge_endpoint.proofs.EndLemmas.{few}
use Rattle.bridge_endpoint.proofs.EntryLemmas.{to_now}
use Rattle.bridge_endpoint.proofs.GoingLemmas.{may_drop}
use Rattle.bridge_endpoint.proofs.MakingLemmas.{few_by, freely_kept, room_for}
use Rattle.bridge_endpoint.proofs.endpoint.Endpoint.drop_ref.Goals as goal

pub returns-then-not-root_holds-clause-not_held : goal.returns-then-not-root_holds-clause-not_held
returns-then-not-root_holds-clause-not_held c =
    to_now (λ g s. holds_pair c.args.root c.args.oid c.args.face s.tables ≡ false) c.self.invariant c.self.view_is (sym c.root_holds.ensures ∙ c.if-not-root_holds.true)

pub enter-requires-clause-few : goal.enter-requires-clause-few
unfolding does
enter-requires-clause-few c =
    few_by (setting_of c.self.inside.setting) (dropped c.args.root c.args.oid c.args.face) c.self.inside.state c.root_drops.new.self c.root_drops.ensures (few c.self.invariant)

pub enter-requires-clause-room : goal.enter-requires-clause-room
enter-requires-clause-room c =
    let g = setting_of c.self.inside.setting in
    room_for c.self.invariant (dropped c.args.root c.args.oid c.args.face) (may_drop g c.self.inside.state.side c.args.root c.args.oid c.args.face (sym c.root_holds.ensures ∙ c.if-not-root_holds.false)) refl

pub invariant_of-self : goal.invariant_of-self
unfolding does
invariant_of-self c =
    let g = setting_of c.self.inside.setting in
    freely_kept c.self.invariant (dropped c.args.root c.args.oid c.args.face) (may_drop g c.self.inside.state.side c.args.root c.args.oid c.args.face (sym c.root_holds.ensures ∙ c.if-not-root_holds.false)) tt
    c.enter.new.state c.enter.new.journal (c.enter.ensures.counted ∙ ap (on_side counts_one) c.root_drops.ensures) refl c.enter.ensures.entered

pub returns-clause-held : goal.returns-clause-held
returns-clause-held c =
    to_now (λ g s. holds_pair c.args.root c.args.oid c.args.face s.tables ≡ true) c.self.invariant c.self.view_is (sym c.root_holds.ensures ∙ c.if-not-root_holds.false)
