use Rattle.std.proofs.Common.{sym, ap}
use Rattle.bridge_model.specs.Answers.{after_feeding}
use Rattle.bridge_model.specs.Ends.{ends_by}
use Rattle.bridge_endpoint.proofs.feeding.ended_by.Goals as goal

pub returns-in-Some-clause-answer : goal.returns-in-Some-clause-answer
unfolding ends_by
returns-in-Some-clause-answer c bytes is = sym (ap (λ e. after_feeding bytes e.side.cause) c.end.ensures)
