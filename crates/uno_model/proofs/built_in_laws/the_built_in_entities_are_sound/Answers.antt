use Rattle.uno_model.proofs.BuiltInSoundLaws.{built_in_sound}
use Rattle.uno_model.proofs.built_in_laws.the_built_in_entities_are_sound.Goals as goal

pub returns : goal.returns
returns c = built_in_sound
