use Rattle.std.proofs.Common.{rules, ap, ◌∙◌}
use Rattle.table_model.specs.declared.holder.Holder.TheVariants as holder
use Rattle.uno_model.specs.Values.{own}
use Rattle.bridge_model.specs.References.{loses}
use Rattle.bridge_setting.specs.Settings.{setting_of}
use Rattle.bridge_tables.specs.EndTables.{on_tables}
use Rattle.bridge_state.proofs.RootMakingLemmas.{held_then_made, held_then_lost}
use Rattle.bridge_state.proofs.state.State.root_makes.Goals as goal

pub returns-in-Ok-clause-made : goal.returns-in-Ok-clause-made
returns-in-Ok-clause-made c =
    held_then_made (setting_of c.args.setting.now) c.args.root c.args.wanted.now c.self-2.inside.tables c.make_default.new.self c.self-2.inside.stacks c.self-2.inside.incoming c.self-2.inside.outgoing c.self-2.inside.entries
    c.self-2.inside.cause c.in-Some.number c.args.self.now (c.self-2.view_is ∙ c.in_ok-oid.ensures.held) c.args.behaviour (search rules) c.in-Ok.ensures.made

pub returns-in-Err-clause-kept : goal.returns-in-Err-clause-kept
returns-in-Err-clause-kept c =
    held_then_lost (setting_of c.args.setting.now) c.args.root c.args.wanted.now c.self-2.inside.tables c.lose_pair.new.self c.self-2.inside.stacks c.self-2.inside.incoming c.self-2.inside.outgoing c.self-2.inside.entries
    c.self-2.inside.cause c.in-Some.number c.args.self.now (c.self-2.view_is ∙ c.in_ok-oid.ensures.held) c.make_default.new.self c.in-Err.ensures.kept
    (c.lose_pair.ensures ∙ ap (λ oid. on_tables (loses (holder.Root c.args.root) (own oid c.args.wanted.now)) c.make_default.new.self) c.in_ok-oid.ensures.identity)
