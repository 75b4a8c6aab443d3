use Rattle.std.proofs.Common.{map, ap, ◌∙◌}
use Rattle.uno_entities.specs.Entities.{field_of}
use Rattle.uno_values.specs.Values.{plain_of}
use Rattle.plan_model.specs.Evaluation.{value_under}
use Rattle.plan_model.specs.Holdings.{put}
use Rattle.bridge_model.specs.Objects.{field_values}
use Rattle.bridge_tables.specs.EndTables.{on_tables}
use Rattle.bridge_tables.specs.Fields.{with_values}
use Rattle.bridge_tables.proofs.FieldLemmas.{truncated, values_twice}
use Rattle.bridge_tables.proofs.tables.Tables.put_field.Goals as goal

pub returns-clause-was : goal.returns-clause-was
returns-clause-was c =
    c.put-was.ensures.was
    ∙ ap (value_under c.args.name.now) (truncated field_of plain_of c.args.fields.now c.take_fields-values.result.items c.truncate.new.self.items _ c.truncate.ensures.items c.take_fields-values.ensures.was)

pub returns-clause-put : goal.returns-clause-put
returns-clause-put c =
    c.give_fields.ensures
    ∙ ap (on_tables (with_values c.args.number (map plain_of c.put-was.new.values.items))) c.take_fields-values.ensures.out
    ∙ values_twice c.args.number (map plain_of c.put-was.new.values.items) c.args.self.now
    ∙ ap (λ xs. on_tables (with_values c.args.number xs) c.args.self.now)
    (c.put-was.ensures.put
    ∙ ap (λ xs. field_values (put c.args.name.now (plain_of c.args.value) xs))
    (truncated field_of plain_of c.args.fields.now c.take_fields-values.result.items c.truncate.new.self.items _ c.truncate.ensures.items c.take_fields-values.ensures.was))
