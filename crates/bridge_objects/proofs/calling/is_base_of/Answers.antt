use Rattle.std.proofs.lemmas.Bool.Decides.{same_from_decides}
use Rattle.uno_model.proofs.AssignableLaws.{base_told}
use Rattle.bridge_objects.proofs.calling.is_base_of.Goals as goal

pub returns : goal.returns
returns c = same_from_decides _ _ c.has_base.ensures (base_told _ _ _ c.requires.no_circle)
