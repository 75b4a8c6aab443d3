use Rattle.std.proofs.Common.{◌≡◌, refl, Option, Some, None, sym, ap, ◌∙◌}
use Rattle.std.specs.Option.{option_map}
use Rattle.bridge_model.specs.Entries.{took}
use Rattle.bridge_model.specs.Roots.{outcome_in}
use Rattle.bridge_model.specs.Sides.{Outcome, state_of}
use Rattle.bridge_model.specs.Steps.{does}
use Rattle.bridge_setting.specs.Settings.{setting_of}
use Rattle.bridge_state.specs.EndSides.{on_side}
use Rattle.bridge_tables.specs.Roots.{outcome_of}
use Rattle.bridge_endpoint.specs.Entering.{counts_one}
use Rattle.bridge_endpoint.proofs.EndLemmas.{few}
use Rattle.bridge_endpoint.proofs.EntryLemmas.{to_now}
use Rattle.bridge_endpoint.proofs.GoingLemmas.{may_take}
use Rattle.bridge_endpoint.proofs.MakingLemmas.{few_by, freely_kept, room_for}
use Rattle.bridge_endpoint.proofs.endpoint.Endpoint.take.Goals as goal

pub returns-in_err-outcome-clause-outcome : goal.returns-in_err-outcome-clause-outcome
returns-in_err-outcome-clause-outcome c =
    ap (option_map (λ o. outcome_of o)) c.from_residual.ensures
    ∙ to_now (λ g s. ◌≡◌ {A = Option Outcome} None (outcome_in (state_of c.args.root s.tables.roots))) c.self.invariant c.self.view_is
    (sym (ap (option_map (λ o. outcome_of o)) c.in_err-outcome.was) ∙ c.root_takes.ensures.outcome)

pub enter-requires-clause-few : goal.enter-requires-clause-few
unfolding does
enter-requires-clause-few c = few_by (setting_of c.self.inside.setting) (took c.args.root) c.self.inside.state c.root_takes.new.self c.in_ok-outcome.ensures.taken (few c.self.invariant)

pub enter-requires-clause-room : goal.enter-requires-clause-room
enter-requires-clause-room c =
    let g = setting_of c.self.inside.setting in
    room_for c.self.invariant (took c.args.root)
    (may_take g c.self.inside.state.side c.args.root (outcome_of c.in_ok-outcome.outcome) (sym (ap (option_map (λ o. outcome_of o)) c.in_ok-outcome.was) ∙ c.root_takes.ensures.outcome)) refl

pub invariant_of-self-2 : goal.invariant_of-self-2
unfolding does
invariant_of-self-2 c =
    let g = setting_of c.self.inside.setting in
    freely_kept c.self.invariant (took c.args.root)
    (may_take g c.self.inside.state.side c.args.root (outcome_of c.in_ok-outcome.outcome) (sym (ap (option_map (λ o. outcome_of o)) c.in_ok-outcome.was) ∙ c.root_takes.ensures.outcome)) tt c.enter.new.state
    c.enter.new.journal (c.enter.ensures.counted ∙ ap (on_side counts_one) c.in_ok-outcome.ensures.taken) refl c.enter.ensures.entered

pub returns-clause-outcome : goal.returns-clause-outcome
returns-clause-outcome c =
    to_now (λ g s. ◌≡◌ {A = Option Outcome} (Some (outcome_of c.in_ok-outcome.outcome)) (outcome_in (state_of c.args.root s.tables.roots))) c.self.invariant c.self.view_is
    (sym (ap (option_map (λ o. outcome_of o)) c.in_ok-outcome.was) ∙ c.root_takes.ensures.outcome)
