use Rattle.registry_reading.proofs.LastLemmas.{taken_rest}
use Rattle.registry_reading.proofs.interface.interface_line.Goals as goal

pub returns-in_default : goal.returns-in_default
returns-in_default c = taken_rest _ _ _ _ _ _ _ c.in_default.not-base c.in_default.not-optional c.member_line.ensures
