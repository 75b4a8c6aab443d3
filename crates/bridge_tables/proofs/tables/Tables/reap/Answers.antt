use Rattle.std.proofs.Common.{◌≡◌, ap, sym, ◌∙◌, [], map, refl, unwrap_or}
use Rattle.uno_values.specs.Values.{plain_of}
use Rattle.table_model.specs.declared.holder.Holder.TheVariants as holder
use Rattle.bridge_model.specs.Going.{reaps_object}
use Rattle.bridge_model.specs.Objects.{object_numbered, without_object}
use Rattle.bridge_model.specs.References.{lets_go_all, loses_all, refs_of_values}
use Rattle.bridge_objects.specs.Kept.{fields_of}
use Rattle.bridge_setting.specs.Settings.{setting_of}
use Rattle.bridge_tables.specs.EndTables.{on_tables}
use Rattle.bridge_tables.specs.Roots.{root_of}
use Rattle.bridge_tables.proofs.LettingLemmas.{seen}
use Rattle.bridge_tables.proofs.MakingLemmas.{reaped_standing, reaped_ended}
use Rattle.bridge_tables.proofs.tables.Tables.reap.Goals as goal

pub returns-then-self : goal.returns-then-self
returns-then-self c = λ o found.
    let gone : seen c.remove-fields.new.self c.self.inside.unsaid c.self.inside.stands (map root_of c.self.inside.roots.items) c.self.inside.frames_made
    ≡ on_tables (λ t. record t { objects = without_object c.args.number t.objects }) c.args.self.now
    = ap (λ k. seen k c.self.inside.unsaid c.self.inside.stands (map root_of c.self.inside.roots.items) c.self.inside.frames_made) c.remove-fields.ensures.removed
    ∙ ap (on_tables (λ t. record t { objects = without_object c.args.number t.objects })) c.self.view_is in
    reaped_standing (setting_of c.args.setting.now) c.args.number o c.args.self.now.tables.objects (map plain_of c.remove-fields.result.items) c.args.self.now
    (on_tables (λ t. record t { objects = without_object c.args.number t.objects }) c.args.self.now) c.let_values_go.new.self found refl
    (c.remove-fields.ensures.was ∙ ap (λ e. unwrap_or (fields_of (object_numbered c.args.number e.tables.objects)) []) c.self.view_is) refl
    (c.let_values_go.ensures ∙ (λ i. on_tables (lets_go_all (setting_of c.args.setting.now) (holder.Object c.args.number) (refs_of_values (map plain_of (c.deref.ensures.value i)))) (gone i)))
    ∙ ap (λ b. on_tables (reaps_object (setting_of c.args.setting.now) b o) c.args.self.now) (sym (sym (ap (λ e. e.stands) c.self.view_is) ∙ c.if-self.true))

pub returns : goal.returns
returns c = λ o found.
    let gone : seen c.remove-fields.new.self c.self.inside.unsaid c.self.inside.stands (map root_of c.self.inside.roots.items) c.self.inside.frames_made
    ≡ on_tables (λ t. record t { objects = without_object c.args.number t.objects }) c.args.self.now
    = ap (λ k. seen k c.self.inside.unsaid c.self.inside.stands (map root_of c.self.inside.roots.items) c.self.inside.frames_made) c.remove-fields.ensures.removed
    ∙ ap (on_tables (λ t. record t { objects = without_object c.args.number t.objects })) c.self.view_is in
    reaped_ended (setting_of c.args.setting.now) c.args.number o c.args.self.now.tables.objects (map plain_of c.remove-fields.result.items) c.args.self.now
    (on_tables (λ t. record t { objects = without_object c.args.number t.objects }) c.args.self.now) c.lose_values.new.self found refl
    (c.remove-fields.ensures.was ∙ ap (λ e. unwrap_or (fields_of (object_numbered c.args.number e.tables.objects)) []) c.self.view_is) refl
    (c.lose_values.ensures ∙ (λ i. on_tables (loses_all (holder.Object c.args.number) (refs_of_values (map plain_of (c.deref-else-self.ensures.value i)))) (gone i)))
    ∙ ap (λ b. on_tables (reaps_object (setting_of c.args.setting.now) b o) c.args.self.now) (sym (sym (ap (λ e. e.stands) c.self.view_is) ∙ c.if-self.false))
