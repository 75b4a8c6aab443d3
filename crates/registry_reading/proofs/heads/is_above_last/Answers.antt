use Rattle.std.proofs.Common.{◌∙◌, sym}
use Rattle.registry_reading.proofs.HeadLemmas.{above_some, above_none}
use Rattle.registry_reading.proofs.heads.is_above_last.Goals as goal

pub returns-in-Some : goal.returns-in-Some
returns-in-Some c = c.lt.ensures ∙ sym (above_some _ _ _ c.in-Some.ensures.value)

pub returns-in-None : goal.returns-in-None
returns-in-None c = above_none _ _ c.in-None.ensures.value
