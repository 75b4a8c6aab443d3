use Rattle.std.proofs.Common.{◌≡◌, ap, ◌∙◌}
use Rattle.bridge_setting.specs.Settings.{setting_of}
use Rattle.bridge_tables.specs.EndTables.{quiet}
use Rattle.bridge_tables.proofs.ReferringLemmas.{at_err, quiet_said}
use Rattle.bridge_tables.proofs.tables.Tables.take_remote.Goals.{then-holders-gt0+in_ok-say_release, else-holders-gt0}
use Rattle.bridge_tables.proofs.tables.Tables.take_remote.Goals as goal

pub returns-in_err-hold-clause-kept : goal.returns-in_err-hold-clause-kept
returns-in_err-hold-clause-kept c =
    let before : quiet c.if-holders-gt0.self ≡ quiet c.args.self.now = elim c.if-holders-gt0.branch [
      | then-holders-gt0+in_ok-say_release w ↦ ap quiet w.self-is ∙ ap quiet w.in_ok-say_release.ensures.said ∙ quiet_said (setting_of c.args.setting.now) c.args.oid.now c.args.face.now c.args.self.now
      | else-holders-gt0 w ↦ ap quiet w.self-is
    ] in
    at_err c.from_residual-in_err-hold.result (ap quiet c.in_err-hold.ensures.kept ∙ before)
