use Rattle.std.proofs.lemmas.List.{nil_from_length}
use Rattle.behaviour_text.proofs.TextLemmas.{cons_some}
use Rattle.behaviour_text.proofs.read.text.next_line.Goals as goal

pub returns-in-Some : goal.returns-in-Some
returns-in-Some c = (c.split_line.ensures.lines (cons_some c.in-Some.ensures.cases.0), c.split_line.ensures.less (cons_some c.in-Some.ensures.cases.0))

pub returns-in-None : goal.returns-in-None
returns-in-None c = nil_from_length _ c.in-None.ensures.cases
