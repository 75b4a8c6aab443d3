use Rattle.std.proofs.Common.{ap, sym, ◌∙◌}
use Rattle.bridge_model.specs.Answers.{is_some_piece}
use Rattle.bridge_model.specs.Steps.{is_no_memory}
use Rattle.bridge_setting.specs.Settings.{setting_of}
use Rattle.bridge_streams.specs.Draining.{waiting_bytes}
use Rattle.bridge_state.proofs.WaitingLemmas.{bytes_told}
use Rattle.bridge_state.proofs.state.State.bytes_wait.Goals as goal

pub returns : goal.returns
returns c =
    bytes_told (setting_of c.args.setting.now) c.args.self.now.side c.waits.result
    (sym (ap (λ e. is_no_memory e.side.cause) c.self.view_is) ∙ sym c.lacks_memory.ensures ∙ c.if-lacks_memory.false)
    (c.waits.ensures (setting_of c.args.setting.now).registry ∙ ap (λ e. is_some_piece (waiting_bytes (setting_of c.args.setting.now).registry e.side.tables.unsaid e.side.outgoing)) c.self.view_is)
