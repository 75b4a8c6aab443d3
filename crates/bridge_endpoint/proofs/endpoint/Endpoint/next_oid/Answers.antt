use Rattle.std.proofs.Common.{◌≡◌, ◌∙◌, ap, subst, suc, IfOk}
use Rattle.bridge_model.specs.Settings.{own_oid}
use Rattle.bridge_setting.specs.Settings.{setting_of}
use Rattle.bridge_endpoint.proofs.EntryLemmas.{to_now}
use Rattle.bridge_endpoint.proofs.endpoint.Endpoint.next_oid.Goals as goal

pub returns : goal.returns
returns c =
    let g = setting_of c.self.inside.setting in
    let s = c.self.inside.state.side in
    let next : c.in-Some.number ≡ suc s.tables.objects_made = c.in-Some.ensures ∙ ap suc c.objects_made.ensures in
    to_now (λ g s. IfOk c.own_oid.result (λ oid. oid ≡ own_oid g (suc s.tables.objects_made))) c.self.invariant c.self.view_is
    (subst (λ n. IfOk c.own_oid.result (λ oid. oid ≡ own_oid g n)) next c.own_oid.ensures)
