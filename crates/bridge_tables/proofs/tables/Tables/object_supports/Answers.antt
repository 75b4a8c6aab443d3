use Rattle.std.proofs.Common.{ap, ◌∙◌, refl, sym, None, Some}
use Rattle.plan_model.specs.Plans.{faces_of, supports}
use Rattle.plan_types.specs.Plans.{plan_of}
use Rattle.bridge_model.specs.Objects.{object_named, object_numbered}
use Rattle.bridge_objects.specs.Kept.{behaviour_of}
use Rattle.bridge_setting.specs.Settings.{setting_of}
use Rattle.bridge_tables.proofs.AnsweringLemmas.{shown, none_supports, one_supports, no_other, named_none}
use Rattle.bridge_tables.proofs.tables.Tables.object_supports.Goals as goal

pub returns-in_default : goal.returns-in_default
returns-in_default c =
    sym
    (none_supports (setting_of c.args.setting.now) c.args.oid.now c.args.wanted.now c.args.self.now.tables.objects
    (named_none (object_named (setting_of c.args.setting.now) c.args.oid.now c.args.self.now.tables.objects)
    (shown (setting_of c.args.setting.now) c.args.oid.now c.as_str.result.now c.self.inside.objects c.args.self.now c.number_named.result None c.as_str.ensures
    (ap (λ e. e.prefix) c.self.view_is) (ap (λ e. e.tables.objects) c.self.view_is) c.requires.of.prefix c.number_named.ensures c.in_default.is)))

pub returns-in_default-object : goal.returns-in_default-object
returns-in_default-object c =
    sym
    (none_supports (setting_of c.args.setting.now) c.args.oid.now c.args.wanted.now c.args.self.now.tables.objects
    (no_other (setting_of c.args.setting.now) c.args.oid.now c.in-Some.number (object_named (setting_of c.args.setting.now) c.args.oid.now c.args.self.now.tables.objects) c.args.self.now.tables.objects refl
    (shown (setting_of c.args.setting.now) c.args.oid.now c.as_str.result.now c.self.inside.objects c.args.self.now c.number_named.result (Some c.in-Some.number) c.as_str.ensures
    (ap (λ e. e.prefix) c.self.view_is) (ap (λ e. e.tables.objects) c.self.view_is) c.requires.of.prefix c.number_named.ensures c.in-Some.is)
    (ap (λ e. object_numbered c.in-Some.number e.tables.objects) (sym c.self.view_is) ∙ c.in_default-object.ensures.none)))

pub returns : goal.returns
returns c =
    c.supports.ensures ∙ ap (supports c.args.setting.now.registry (faces_of (plan_of c.args.setting.now.plan) c.in-Some-object.behaviour)) c.as_str-2.ensures
    ∙ sym
    (one_supports (setting_of c.args.setting.now) c.args.oid.now c.args.wanted.now c.in-Some.number c.in-Some-object.behaviour
    (object_named (setting_of c.args.setting.now) c.args.oid.now c.args.self.now.tables.objects) c.args.self.now.tables.objects refl
    (shown (setting_of c.args.setting.now) c.args.oid.now c.as_str.result.now c.self.inside.objects c.args.self.now c.number_named.result (Some c.in-Some.number) c.as_str.ensures
    (ap (λ e. e.prefix) c.self.view_is) (ap (λ e. e.tables.objects) c.self.view_is) c.requires.of.prefix c.number_named.ensures c.in-Some.is)
    (ap (λ e. behaviour_of (object_numbered c.in-Some.number e.tables.objects)) (sym c.self.view_is) ∙ c.in-Some-object.ensures.found))
