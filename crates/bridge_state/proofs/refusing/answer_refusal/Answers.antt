use Rattle.std.proofs.Common.{map, ap, sym, ◌∙◌}
use Rattle.uno_values.specs.Values.{plain_of}
use Rattle.urp_message.specs.Messages.{answer_of}
use Rattle.bridge_model.specs.Receiving.{refs_refusal}
use Rattle.bridge_model.specs.References.{refs_of_answer, refs_of_values}
use Rattle.bridge_setting.specs.Settings.{setting_of}
use Rattle.bridge_state.proofs.ValueRefsLemmas.{result_fine, result_refused}
use Rattle.bridge_state.proofs.refusing.answer_refusal.Goals as goal

pub returns-in-Some : goal.returns-in-Some
returns-in-Some c =
    result_refused (setting_of c.args.setting.now) c.args.tables.now.tables (plain_of c.in-Returned.value) (map plain_of c.in-Returned.outs.items) c.value_refusal.result c.in-Some.why c.value_refusal.ensures c.in-Some.is
    ∙ ap (λ a. refs_refusal (setting_of c.args.setting.now) c.args.tables.now.tables (refs_of_answer (answer_of a))) (sym c.in-Returned.is)

pub returns-in-None : goal.returns-in-None
returns-in-None c =
    c.values_refusal.ensures
    ∙ ap (λ vs. refs_refusal (setting_of c.args.setting.now) c.args.tables.now.tables (refs_of_values (map plain_of vs))) c.deref.ensures.value
    ∙ result_fine (setting_of c.args.setting.now) c.args.tables.now.tables (plain_of c.in-Returned.value) (map plain_of c.in-Returned.outs.items) c.value_refusal.result c.value_refusal.ensures c.in-None.is
    ∙ ap (λ a. refs_refusal (setting_of c.args.setting.now) c.args.tables.now.tables (refs_of_answer (answer_of a))) (sym c.in-Returned.is)
