use Rattle.std.proofs.Common.{◌∙◌, ap, sym}
use Rattle.answering.proofs.EndLaws.{told_side}
use Rattle.answering.proofs.working.work.Goals as goal

pub returns-clause-works : goal.returns-clause-works
returns-clause-works g c =
    (c.in_ok-settle.ensures.settles.0, c.in_ok-settle.ensures.settles.1, ap (λ s. s.cause) (sym (told_side c.settle.new.end)) ∙ sym c.end.ensures)
