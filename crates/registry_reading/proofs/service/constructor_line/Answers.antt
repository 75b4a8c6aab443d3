use Rattle.registry_reading.proofs.LastLemmas.{behind_constructor}
use Rattle.registry_reading.proofs.service.constructor_line.Goals as goal

pub returns-in_default : goal.returns-in_default
returns-in_default c = behind_constructor _ _ _ _ _ _ c.in_default.not-constructor c.line_under_constructor.ensures
