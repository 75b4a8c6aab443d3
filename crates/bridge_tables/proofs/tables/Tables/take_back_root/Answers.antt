use Rattle.std.proofs.Common.{ap, ◌∙◌}
use Rattle.table_model.specs.declared.holder.Holder.TheVariants as holder
use Rattle.bridge_model.specs.References.{loses_all}
use Rattle.bridge_model.specs.Sides.{with_root}
use Rattle.bridge_tables.specs.EndTables.{on_tables}
use Rattle.bridge_tables.specs.Roots.{root_of, state_refs}
use Rattle.bridge_tables.proofs.tables.Tables.take_back_root.Goals as goal

pub returns : goal.returns
returns c =
    c.lose_state.ensures ∙ ap (on_tables (loses_all (holder.Root c.args.root) (state_refs (root_of c.set_root-state.result)))) c.set_root-state.ensures.set
    ∙ ap (λ s. on_tables (λ t. loses_all (holder.Root c.args.root) (state_refs s) (with_root c.args.root (root_of c.args.before) t)) c.args.self.now) c.set_root-state.ensures.was
