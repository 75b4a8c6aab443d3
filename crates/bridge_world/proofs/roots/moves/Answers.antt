use Rattle.std.proofs.Common.{sym, ◌∙◌}
use Rattle.behaviour.specs.Roots.{run_of}
use Rattle.bridge_endpoint.specs.Journals.{setting_at, side_at}
use Rattle.bridge_world.proofs.MovingRoots.{moves_answered, moves_idle, stays_waiting}
use Rattle.bridge_world.proofs.roots.moves.Goals as goal

pub returns-in-Waits : goal.returns-in-Waits
returns-in-Waits c = stays_waiting (setting_at c.args.end.now) (side_at c.args.end.now) (run_of c.args.run.now) (sym c.root_state.ensures ∙ c.in-Waits.is)

pub returns-in-Answered : goal.returns-in-Answered
returns-in-Answered c = c.has_statement.ensures ∙ moves_answered (setting_at c.args.end.now) (side_at c.args.end.now) (run_of c.args.run.now) (sym c.root_state.ensures ∙ c.in-Answered.is)

pub returns-in-Idle : goal.returns-in-Idle
returns-in-Idle c = c.has_more.ensures ∙ moves_idle (setting_at c.args.end.now) (side_at c.args.end.now) (run_of c.args.run.now) (sym c.root_state.ensures ∙ c.in-Idle.is)
