use Rattle.std.proofs.Common.{sym, ◌∙◌}
use Rattle.registry_reading_model.proofs.AddLaws.{no_feed}
use Rattle.registry_reading.proofs.LineLemmas.{first_parts}
use Rattle.registry_reading.proofs.lines.first_line.Goals as goal

pub returns-in-Some : goal.returns-in-Some
returns-in-Some c = first_parts _ _ (sym c.line_feed.ensures ∙ c.in-Some.is)

pub returns-in-None : goal.returns-in-None
returns-in-None c = no_feed _ (sym c.line_feed.ensures ∙ c.in-None.is)
