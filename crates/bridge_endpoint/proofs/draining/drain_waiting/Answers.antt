use Rattle.std.proofs.Common.{sym, ap, ◌∙◌, length}
use Rattle.bridge_model.specs.Ends.{runs_out}
use Rattle.bridge_model.specs.Steps.{does}
use Rattle.bridge_setting.specs.Settings.{setting_of}
use Rattle.bridge_endpoint.proofs.DrainLemmas.{drained_lost, next_bytes, on_err, out_again}
use Rattle.bridge_endpoint.proofs.draining.drain_waiting.Goals as goal

pub returns-in_err-bytes-clause-lost : goal.returns-in_err-bytes-clause-lost
returns-in_err-bytes-clause-lost c =
    let s = c.args.state.now.side in
    on_err c.from_residual-in_err-bytes.result _ (ap (λ e. runs_out e.side.cause e.side) c.in_err-bytes.ensures.lost ∙ out_again s.cause s)

pub returns-in_err-copy-clause-lost : goal.returns-in_err-copy-clause-lost
returns-in_err-copy-clause-lost c =
    let s = c.args.state.now.side in
    on_err c.from_residual-in_err-copy.result _
    (ap (λ e. runs_out e.side.cause e.side) c.in_ok-bytes.ensures.drained ∙ drained_lost (setting_of c.args.setting.now) (length c.in_ok-bytes.bytes.items) s)

pub returns-clause-bytes : goal.returns-clause-bytes
returns-clause-bytes c = c.in_ok-bytes.ensures.bytes ∙ sym (next_bytes (setting_of c.args.setting.now) c.args.state.now.side c.args.max c.requires.memory)

pub returns-clause-done : goal.returns-clause-done
unfolding does
returns-clause-done c = c.in_ok-bytes.ensures.drained
