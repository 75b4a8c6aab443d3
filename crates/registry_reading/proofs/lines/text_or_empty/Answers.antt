use Rattle.registry_reading.proofs.LineLemmas.{plain_is_utf8}
use Rattle.registry_reading.proofs.lines.text_or_empty.Goals as goal

pub returns-in-Err : goal.returns-in-Err
returns-in-Err c = λ plain. absurd (c.in-Err.ensures.cases.0 (plain_is_utf8 _ plain))
