use Rattle.std.proofs.Common.{refl, map, ap, ◌∙◌}
use Rattle.uno_entities.specs.Entities.{field_of}
use Rattle.uno_values.specs.References.{ref_of}
use Rattle.uno_values.specs.Values.{plain_of}
use Rattle.bridge_setting.specs.Settings.{setting_of}
use Rattle.bridge_tables.proofs.FieldLemmas.{field_set}
use Rattle.bridge_tables.proofs.tables.Tables.set_field.Goals as goal

pub returns-clause-set : goal.returns-clause-set
returns-clause-set c =
    field_set (setting_of c.args.setting.now) c.args.number c.args.name.now (plain_of c.args.value) c.args.self.now (map ref_of c.deref.result.now) (map field_of c.fields_of.result.now) c.behaviour_of-behaviour.result
    (plain_of c.put_field-was.result) c.gain_all.new.self c.put_field-was.new.self c.let_value_go.new.self c.in_default-gain_all.ensures.gained (ap (map ref_of) c.deref.ensures.value ∙ c.in-Ok.ensures)
    c.behaviour_of-behaviour.ensures (c.fields_of.ensures (setting_of c.args.setting.now) refl) c.put_field-was.ensures.was c.put_field-was.ensures.put c.let_value_go.ensures
