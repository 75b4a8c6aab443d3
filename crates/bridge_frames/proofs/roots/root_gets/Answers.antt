use Rattle.std.proofs.Common.{sym, ap, ◌∙◌}
use Rattle.bridge_setting.specs.Settings.{setting_of}
use Rattle.bridge_model.specs.Sides as plain
use Rattle.bridge_model.specs.Sides.{with_root}
use Rattle.bridge_tables.specs.EndTables.{on_tables}
use Rattle.bridge_tables.specs.Roots.{root_of}
use Rattle.urp_message.specs.Messages.{answer_of}
use Rattle.bridge_frames.proofs.GoingLemmas.{root_got, outcome_got}
use Rattle.bridge_frames.proofs.roots.root_gets.Goals as goal

pub returns-in-Some-clause-gets : goal.returns-in-Some-clause-gets
returns-in-Some-clause-gets c =
    root_got (setting_of c.args.setting.now) c.args.root (plain.waits_query c.in-Some.wanted.now) (answer_of c.args.answer) c.args.tables.now c.set_root-before.new.self c.query_gets.new.tables
    (sym c.in-Some.ensures.waits ∙ c.set_root-before.ensures.was) c.set_root-before.ensures.set c.query_gets.ensures

pub returns-in-None-clause-gets : goal.returns-in-None-clause-gets
returns-in-None-clause-gets c =
    outcome_got (setting_of c.args.setting.now) c.args.root (root_of c.set_root-before.result) (answer_of c.args.answer) c.args.tables.now c.set_root-before.new.self c.answer_root.new.tables
    c.set_root-before.ensures.was c.set_root-before.ensures.set c.in-None.ensures.other
    (c.answer_root.ensures ∙ ap (λ o. on_tables (with_root c.args.root (plain.answered o)) c.set_root-before.new.self) c.outcome_of.ensures)
