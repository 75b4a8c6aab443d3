use Rattle.std.proofs.Common.{ap, ◌∙◌}
use Rattle.registry_reading_model.specs.Heads.{beyond_long}
use Rattle.registry_reading.proofs.HeadLemmas.{no_item}
use Rattle.registry_reading.proofs.heads.is_item_beyond.Goals as goal

pub returns-in-Some : goal.returns-in-Some
returns-in-Some c = λ plain_line. c.is_beyond_long.ensures ∙ ap beyond_long (c.text_or_empty.ensures plain_line)

pub returns-in-None : goal.returns-in-None
returns-in-None c = λ plain_line. no_item c.args.line.now c.in-None.ensures.cases
