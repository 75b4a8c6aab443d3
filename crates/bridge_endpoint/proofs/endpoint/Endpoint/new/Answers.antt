use Rattle.std.proofs.Common.{◌+◌, length, subst, sym, ap, ◌∙◌}
use Rattle.bridge_journal.specs.Logs.{empty_log}
use Rattle.bridge_model.specs.Steps.{opening}
use Rattle.bridge_setting.specs.Settings.{setting_of}
use Rattle.bridge_state.specs.EndSides.{opening_end}
use Rattle.uno_entities.specs.Tag.{IsTag}
use Rattle.uno_model.specs.BuiltIn.{HasBuiltIn}
use Rattle.bridge_endpoint.proofs.OpeningLemmas.{opening_kept}
use Rattle.bridge_endpoint.specs.Entering.{IsWithin, with_room}
use Rattle.bridge_endpoint.specs.Journals.{IsSetUp}
use Rattle.bridge_endpoint.specs.Kept.{IsKept}
use Rattle.bridge_endpoint.proofs.endpoint.Endpoint.new.Goals as goal

pub invariant_of-result : goal.invariant_of-result
invariant_of-result c =
    let g = setting_of c.in_ok-setting.setting in
    let roots = c.in_ok-setting.setting.names.roots in
    let same = c.in_ok-setting.ensures.setting in
    let log = with_room (2 + (opening g).tables.objects_made) empty_log in
    let kept : IsKept g roots (opening_end g) log =
    opening_kept g roots (subst IsSetUp (sym same) c.requires) (subst (λ h. HasBuiltIn h.registry) (sym same) c.know.ensures.built_in) (subst (λ h. IsTag h.tag) (sym same) c.know.ensures.tag)
    (c.in_ok-setting.ensures.roots ∙ ap (λ h. length h.plan.threads) (sym same)) (subst IsWithin c.in-Ok.ensures.journal c.in-Ok.ensures.within) in
    subst (λ l. IsKept g roots c.in-Ok.state l) (sym c.in-Ok.ensures.journal) (subst (λ s. IsKept g roots s log) (sym c.in-Ok.ensures.state) kept)
