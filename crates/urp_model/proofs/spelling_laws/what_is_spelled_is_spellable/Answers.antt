use Rattle.urp_model.proofs.SpellableLaws.{no_texts, value_spellable}
use Rattle.urp_model.proofs.spelling_laws.what_is_spelled_is_spellable.Goals as goal

pub returns-clause-first : goal.returns-clause-first
returns-clause-first c = no_texts

pub returns-clause-spellable : goal.returns-clause-spellable
returns-clause-spellable c levels reg k s t x b bytes each spelled = value_spellable reg levels k s t x b bytes each spelled
