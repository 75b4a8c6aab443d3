use Rattle.std.proofs.Common.{◌∙◌}
use Rattle.std.proofs.lemmas.List.{nil_from_length}
use Rattle.behaviour_text.proofs.StatementLemmas.{last_told, last_lacks}
use Rattle.behaviour_text.proofs.places.last_ends.Goals as goal

pub returns-in-Some : goal.returns-in-Some
returns-in-Some c = c.ends_frame.ensures ∙ last_told _ _ _ c.in-Some.ensures.cases.0

pub returns-in-None : goal.returns-in-None
returns-in-None c = last_lacks _ (nil_from_length _ c.in-None.ensures.cases)
