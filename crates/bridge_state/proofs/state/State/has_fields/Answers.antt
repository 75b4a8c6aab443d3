use Rattle.std.proofs.Common.{◌≡◌, true, refl, sym, ap, ◌∙◌, map}
use Rattle.bridge_model.specs.Objects as objects
use Rattle.bridge_model.specs.Objects.{as_variables, object_numbered}
use Rattle.bridge_objects.specs.Kept as kept
use Rattle.bridge_setting.specs.Settings.{setting_of}
use Rattle.plan_types.specs.Frames.{variables_of}
use Rattle.uno_entities.specs.Entities.{field_of}
use Rattle.uno_values.specs.Values.{plain_of}
use Rattle.bridge_state.proofs.PickingLemmas.{fields_at, told_same}
use Rattle.bridge_state.proofs.state.State.has_fields.Goals as goal

pub returns-in-Some : goal.returns-in-Some
returns-in-Some c =
    let found = sym (ap (λ e. kept.fields_of (object_numbered c.args.object e.side.tables.objects)) c.self.view_is) ∙ c.in-Some.ensures.fields in
    told_same (c.are_fields.result ≡ true) (as_variables (map field_of c.fields_of.result.now) (map plain_of c.in-Some.values.now))
    (objects.variables_of (setting_of c.args.setting.now) (object_numbered c.args.object c.args.self.now.side.tables.objects)) (variables_of c.args.variables.now)
    (fields_at (setting_of c.args.setting.now) (object_numbered c.args.object c.args.self.now.side.tables.objects) c.args.behaviour (map field_of c.fields_of.result.now) (map plain_of c.in-Some.values.now) found c.requires
    (c.fields_of.ensures (setting_of c.args.setting.now) refl))
    c.are_fields.ensures
