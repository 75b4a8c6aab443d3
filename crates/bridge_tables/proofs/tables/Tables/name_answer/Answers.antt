use Rattle.std.proofs.Common.{◌≡◌, ap, sym, ◌∙◌}
use Rattle.plan_model.specs.Plans.{exported}
use Rattle.plan_types.specs.Plans.{plan_of}
use Rattle.bridge_model.specs.Objects.{object_answer}
use Rattle.bridge_model.specs.Settings.{own_oid}
use Rattle.bridge_setting.specs.Settings.{setting_of}
use Rattle.uno_entities.specs.TypeNames.{kind_of}
use Rattle.bridge_tables.proofs.AnsweringLemmas.{ok_as, name_unknown, name_known}
use Rattle.bridge_tables.proofs.tables.Tables.name_answer.Goals as goal

pub returns-in_default : goal.returns-in_default
returns-in_default c =
    ok_as c.void_any.result
    (sym
    (name_unknown (setting_of c.args.setting.now) c.args.name.now (kind_of c.args.wanted.now) c.args.self.now.tables.objects
    (ap (exported (plan_of c.args.setting.now.plan)) (sym c.as_str.ensures) ∙ sym c.exported.ensures ∙ c.in_default.is)))
    c.void_any.ensures

pub returns : goal.returns
returns c =
    let same : c.in-Ok.number ≡ c.in-Some.number = c.in-Ok.ensures.1 in
    ok_as c.object_answer.result
    (ap (λ o. object_answer (setting_of c.args.setting.now) o (kind_of c.args.wanted.now) c.args.self.now.tables.objects) c.in_ok-oid.ensures
    ∙ ap (λ n. object_answer (setting_of c.args.setting.now) (own_oid (setting_of c.args.setting.now) n) (kind_of c.args.wanted.now) c.args.self.now.tables.objects) same
    ∙ sym
    (name_known (setting_of c.args.setting.now) c.args.name.now c.in-Some.number (kind_of c.args.wanted.now) c.args.self.now.tables.objects
    (ap (exported (plan_of c.args.setting.now.plan)) (sym c.as_str.ensures) ∙ sym c.exported.ensures ∙ c.in-Some.is)))
    c.object_answer.ensures
