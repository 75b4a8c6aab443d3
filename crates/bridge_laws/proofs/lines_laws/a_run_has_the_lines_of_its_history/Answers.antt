use Rattle.bridge_laws.proofs.LineLaws.{run_lines}
use Rattle.bridge_laws.proofs.lines_laws.a_run_has_the_lines_of_its_history.Goals as goal

pub returns : goal.returns
returns c = run_lines
