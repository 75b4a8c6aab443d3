use Rattle.std.proofs.Common.{ap, map, ◌∙◌}
use Rattle.uno_values.specs.Values.{plain_of}
use Rattle.table_model.specs.declared.holder.Holder.TheVariants as holder
use Rattle.bridge_model.specs.References.{loses_all, refs_of_values}
use Rattle.bridge_tables.specs.EndTables.{on_tables}
use Rattle.bridge_tables.specs.Roots.{root_of}
use Rattle.bridge_tables.proofs.LastingLemmas.{back_some, back_none}
use Rattle.bridge_tables.proofs.LettingLemmas.{seen}
use Rattle.bridge_tables.proofs.tables.Tables.unmake.Goals as goal

pub returns-in-Some : goal.returns-in-Some
returns-in-Some c = λ b fs e fresh same.
    back_some c.self.inside.objects c.self.inside.unsaid c.self.inside.stands (map root_of c.self.inside.roots.items) c.self.inside.frames_made b fs e c.args.self.now c.self.view_is fresh same
    c.objects_made-number.result (map plain_of c.in-Some.fields.items) c.unmake.new.self c.lose_values.new.self c.objects_made-number.ensures c.in-Some.ensures.was c.in-Some.ensures.unmade
    (c.lose_values.ensures
    ∙ ap
    (λ xs. on_tables (loses_all (holder.Object c.objects_made-number.result) (refs_of_values (map plain_of xs)))
    (seen c.unmake.new.self c.self.inside.unsaid c.self.inside.stands (map root_of c.self.inside.roots.items) c.self.inside.frames_made))
    c.deref.ensures.value)

pub returns-in_default : goal.returns-in_default
returns-in_default c = λ b fs e fresh same.
    back_none c.self.inside.objects c.self.inside.unsaid c.self.inside.stands (map root_of c.self.inside.roots.items) c.self.inside.frames_made b fs e c.args.self.now c.self.view_is fresh same c.in_default.ensures.none
