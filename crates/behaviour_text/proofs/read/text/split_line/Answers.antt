use Rattle.std.proofs.Common.{sym, ◌∙◌}
use Rattle.behaviour_text.proofs.TextLemmas.{line_before, line_last}
use Rattle.behaviour_text.proofs.read.text.split_line.Goals as goal

pub returns-in-Some-clause-lines : goal.returns-in-Some-clause-lines
returns-in-Some-clause-lines c = λ some. line_before _ _ _ _ _ (sym c.line_feed.ensures ∙ c.in-Some.is) c.split_at.ensures.front c.split_at.ensures.back c.behind_first.ensures

pub returns-in-None-clause-lines : goal.returns-in-None-clause-lines
returns-in-None-clause-lines c = λ some. line_last _ (sym c.line_feed.ensures ∙ c.in-None.is) some
