use Rattle.std.proofs.Common.{◌≡◌, suc, None, ap, subst, ◌∙◌, map}
use Rattle.uno_values.specs.References.{ref_of}
use Rattle.uno_values.specs.Values.{plain_of}
use Rattle.table_model.specs.declared.holder.Holder.TheVariants as holder
use Rattle.bridge_model.specs.Objects.{object_numbered}
use Rattle.bridge_model.specs.References.{gains_all, refs_of_values}
use Rattle.bridge_objects.specs.Kept.{unmade}
use Rattle.bridge_tables.specs.EndTables.{on_tables}
use Rattle.bridge_tables.specs.Roots.{root_of}
use Rattle.bridge_tables.proofs.LettingLemmas.{seen}
use Rattle.bridge_tables.proofs.MakingLemmas.{made_seen, taken_back, kept_in, replaced, fresh_number}
use Rattle.bridge_tables.proofs.tables.Tables.make.Goals as goal

pub returns-in-Ok-clause-made : goal.returns-in-Ok-clause-made
returns-in-Ok-clause-made c =
    made_seen c.args.behaviour (map plain_of c.args.fields.items) c.self.inside.objects c.make.new.self c.self.inside.unsaid c.self.inside.stands (map root_of c.self.inside.roots.items) c.self.inside.frames_made
    c.in_ok-number.number (map ref_of c.in_ok-references.references.items) c.args.self.now c.gain_all.new.self c.self.view_is c.in_ok-number.ensures.made c.in_ok-number.ensures.number
    (c.in_ok-references.ensures ∙ ap (λ xs. refs_of_values (map plain_of xs)) c.deref.ensures.value)
    (c.in-Ok.ensures.gained
    ∙ ap (λ rs. on_tables (gains_all (holder.Object c.in_ok-number.number) (map ref_of rs)) (seen c.make.new.self c.self.inside.unsaid c.self.inside.stands (map root_of c.self.inside.roots.items) c.self.inside.frames_made))
    c.deref-2.ensures.value)

pub returns-clause-kept : goal.returns-clause-kept
returns-clause-kept c =
    let again : seen c.self-2.inside.objects c.self-2.inside.unsaid c.self-2.inside.stands (map root_of c.self-2.inside.roots.items) c.self-2.inside.frames_made
    ≡ seen c.make.new.self c.self.inside.unsaid c.self.inside.stands (map root_of c.self.inside.roots.items) c.self.inside.frames_made
    = c.self-2.view_is ∙ c.in-Err.ensures.kept in
    let same : c.self-2.inside.objects ≡ c.make.new.self = ap kept_in again in
    let back : c.unmake.new.self ≡ c.self.inside.objects = taken_back c.unmake.result c.args.behaviour (map plain_of c.args.fields.items) c.self.inside.objects c.self-2.inside.objects c.unmake.new.self
    (same ∙ c.in_ok-number.ensures.made) (ap unmade same ∙ c.in_ok-number.ensures.back) c.unmake.ensures.unmade c.unmake.ensures.none in
    ap (λ k. replaced k (seen c.self-2.inside.objects c.self-2.inside.unsaid c.self-2.inside.stands (map root_of c.self-2.inside.roots.items) c.self-2.inside.frames_made)) back
    ∙ ap (replaced c.self.inside.objects) again
    ∙ c.self.view_is

pub returns-in-Ok-clause-fresh : goal.returns-in-Ok-clause-fresh
returns-in-Ok-clause-fresh c =
    subst (λ e. object_numbered (suc e.tables.objects_made) e.tables.objects ≡ None) c.self.view_is
    (fresh_number c.args.behaviour (map plain_of c.args.fields.items) c.self.inside.objects c.make.new.self c.in_ok-number.ensures.made c.in_ok-number.ensures.back)
