use Rattle.std.proofs.Common.{◌≡◌, refl, Some, None, sym, ap, ◌∙◌}
use Rattle.bridge_model.specs.Answers.{may_reap}
use Rattle.bridge_model.specs.Entries.{reaped}
use Rattle.bridge_model.specs.Steps.{does}
use Rattle.bridge_setting.specs.Settings.{setting_of}
use Rattle.bridge_state.specs.EndSides.{on_side}
use Rattle.bridge_endpoint.specs.Entering.{counts_one}
use Rattle.bridge_endpoint.proofs.EndLemmas.{few}
use Rattle.bridge_endpoint.proofs.EntryLemmas.{to_now}
use Rattle.bridge_endpoint.proofs.GoingLemmas.{may_take_out}
use Rattle.bridge_endpoint.proofs.MakingLemmas.{few_by, freely_kept, room_for}
use Rattle.bridge_endpoint.proofs.endpoint.Endpoint.reap.Goals as goal

pub reap-requires : goal.reap-requires
reap-requires c = c.self.invariant.of

pub returns-in_err-object-clause-object : goal.returns-in_err-object-clause-object
returns-in_err-object-clause-object c =
    c.from_residual.ensures ∙ to_now (λ g s. None ≡ may_reap g s) c.self.invariant c.self.view_is (sym c.in_err-object.was ∙ c.reap.ensures.object)

pub enter-requires-clause-few : goal.enter-requires-clause-few
unfolding does
enter-requires-clause-few c =
    few_by (setting_of c.self.inside.setting) (reaped c.in_ok-object.object) c.self.inside.state c.reap.new.self c.in_ok-object.ensures.reaped (few c.self.invariant)

pub enter-requires-clause-room : goal.enter-requires-clause-room
enter-requires-clause-room c =
    let g = setting_of c.self.inside.setting in
    room_for c.self.invariant (reaped c.in_ok-object.object) (may_take_out g c.self.inside.state.side c.in_ok-object.object (sym c.in_ok-object.was ∙ c.reap.ensures.object)) refl

pub invariant_of-self-2 : goal.invariant_of-self-2
unfolding does
invariant_of-self-2 c =
    let g = setting_of c.self.inside.setting in
    freely_kept c.self.invariant (reaped c.in_ok-object.object) (may_take_out g c.self.inside.state.side c.in_ok-object.object (sym c.in_ok-object.was ∙ c.reap.ensures.object)) tt
    c.enter.new.state c.enter.new.journal (c.enter.ensures.counted ∙ ap (on_side counts_one) c.in_ok-object.ensures.reaped) refl c.enter.ensures.entered

pub returns-clause-object : goal.returns-clause-object
returns-clause-object c = to_now (λ g s. Some c.in_ok-object.object ≡ may_reap g s) c.self.invariant c.self.view_is (sym c.in_ok-object.was ∙ c.reap.ensures.object)
