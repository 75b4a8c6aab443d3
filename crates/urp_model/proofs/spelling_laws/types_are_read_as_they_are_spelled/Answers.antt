use Rattle.urp_model.proofs.TypeReadingLaws.{kind_agrees}
use Rattle.urp_model.proofs.spelling_laws.types_are_read_as_they_are_spelled.Goals as goal

pub returns : goal.returns
returns c = λ reg s sound. kind_agrees reg s sound.named
