use Rattle.urp_model.proofs.ClassLaws.{class_told}
use Rattle.urp_wire.proofs.read.kind.class_numbered.Goals as goal

pub returns : goal.returns
returns c = class_told _ _ c.of_code.ensures
