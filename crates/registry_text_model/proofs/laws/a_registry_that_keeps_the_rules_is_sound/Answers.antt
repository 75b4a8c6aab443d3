use Rattle.registry_text_model.proofs.SoundLaws.{rules_make_sound}
use Rattle.registry_text_model.proofs.laws.a_registry_that_keeps_the_rules_is_sound.Goals as goal

pub returns : goal.returns
returns c = rules_make_sound
