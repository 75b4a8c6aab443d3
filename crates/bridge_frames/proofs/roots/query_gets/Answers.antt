use Rattle.std.proofs.Common.{map, ap, sym, ◌∙◌}
use Rattle.bridge_setting.specs.Settings.{setting_of}
use Rattle.bridge_tables.specs.Roots.{outcome_of}
use Rattle.frame_variables.specs.Taking.{refs_of_rest}
use Rattle.uno_entities.specs.TypeNames.{kind_of}
use Rattle.uno_model.specs.Values.{refs}
use Rattle.uno_values.specs.References.{ref_of}
use Rattle.uno_values.specs.Values.{plain_of}
use Rattle.urp_message.specs.Messages.{answer_of}
use Rattle.bridge_frames.proofs.GoingLemmas.{reference_got, all_got, exception_got}
use Rattle.bridge_frames.proofs.roots.query_gets.Goals as goal

pub returns-in-Some : goal.returns-in-Some
returns-in-Some c =
    reference_got (setting_of c.args.setting.now) c.args.root c.args.wanted.now (answer_of c.args.answer) c.args.tables.now (plain_of c.in-Returned.value) (map plain_of c.in-Returned.outs.items)
    (ref_of c.sort_answer-reference.result.reference) (outcome_of c.outcome_of_query-outcome.result) (refs (plain_of c.in-Some.rest)) c.answer_root.new.tables c.let_value_go.new.self (ap answer_of c.in-Returned.is)
    c.sort_answer-reference.ensures.reference c.outcome_of_query-outcome.ensures (sym (ap refs_of_rest c.in-Some.is) ∙ c.sort_answer-reference.ensures.rest) c.answer_root.ensures c.let_value_go.ensures

pub returns-in-None : goal.returns-in-None
returns-in-None c =
    all_got (setting_of c.args.setting.now) c.args.root c.args.wanted.now (answer_of c.args.answer) c.args.tables.now (plain_of c.in-Returned.value) (map plain_of c.in-Returned.outs.items)
    (ref_of c.sort_answer-reference.result.reference) (outcome_of c.outcome_of_query-outcome.result) c.answer_root.new.tables (ap answer_of c.in-Returned.is) c.sort_answer-reference.ensures.reference
    c.outcome_of_query-outcome.ensures (sym (ap refs_of_rest c.in-None.is) ∙ c.sort_answer-reference.ensures.rest) c.answer_root.ensures

pub returns-in-Raised : goal.returns-in-Raised
returns-in-Raised c =
    exception_got (setting_of c.args.setting.now) c.args.root c.args.wanted.now (answer_of c.args.answer) c.args.tables.now (kind_of c.in-Raised.exception.kind) (plain_of c.in-Raised.exception.value)
    c.answer_root-in-Raised.new.tables (ap answer_of c.in-Raised.is) c.answer_root-in-Raised.ensures
