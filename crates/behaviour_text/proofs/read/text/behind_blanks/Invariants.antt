use Rattle.plan_model.specs.PlanText.{behind_blanks}
use Rattle.std.specs.Prelude.{length, ◌≡◌}
use Rattle.behaviour_text.proofs.read.text.behind_blanks.Given as goal

abbrev pub invariant-loop-first : goal.invariant-loop-first
invariant-loop-first l = behind_blanks l.rest ≡ behind_blanks l.line

abbrev pub decreases-loop-first : goal.decreases-loop-first
decreases-loop-first l = length l.rest
