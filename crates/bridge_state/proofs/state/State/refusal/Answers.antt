use Rattle.std.proofs.Common.{map, ap, sym, ◌∙◌}
use Rattle.uno_values.specs.Values.{plain_of}
use Rattle.urp_message.specs.Messages.{message_of}
use Rattle.bridge_model.specs.Receiving.{refs_refusal, refusal}
use Rattle.bridge_model.specs.References.{refs_of_values}
use Rattle.bridge_setting.specs.Settings.{setting_of}
use Rattle.bridge_state.proofs.ValueRefsLemmas.{request_fine}
use Rattle.bridge_state.proofs.state.State.refusal.Goals as goal

pub returns-in_default : goal.returns-in_default
returns-in_default c =
    c.values_refusal.ensures
    ∙ ap (λ vs. refs_refusal (setting_of c.args.setting.now) c.self.inside.tables.tables (refs_of_values (map plain_of vs))) c.deref.ensures.value
    ∙ request_fine (setting_of c.args.setting.now) c.args.self.now.side c.self.inside.tables.tables c.self.inside.stacks c.in-Request.tid c.in-Request.oid c.in-Request.face c.in-Request.function (map plain_of c.in-Request.args.items)
    c.is_target.result c.thread_refusal.result (ap (λ e. e.side.tables) c.self.view_is) (ap (λ e. e.side.stacks) c.self.view_is) c.is_target.ensures c.if-not-is_target.false c.thread_refusal.ensures c.in_default.is
    ∙ ap (λ m. refusal (setting_of c.args.setting.now) c.args.self.now.side (message_of m)) (sym c.in-Request.is)
