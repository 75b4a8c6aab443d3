use Rattle.uno_run.proofs.SettingUp.{short_text}
use Rattle.uno_run.proofs.setting_up.registry_in.Goals as goal

pub returns-in-Ok-clause-is_of : goal.returns-in-Ok-clause-is_of
returns-in-Ok-clause-is_of c = record { accepted = c.in-Ok.ensures.accepted; short = short_text _ _ _ c.in-Ok.ensures.long }

pub returns-in-Ok-clause-names : goal.returns-in-Ok-clause-names
returns-in-Ok-clause-names c = c.know_names.ensures _ c.in-Ok.ensures.accepted
