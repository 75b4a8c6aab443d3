use Rattle.urp_stream.proofs.RunLaws.{run_keeps, run_stands}
use Rattle.urp_stream.proofs.laws.runs_give_what_they_took.Goals as goal

pub returns-clause-bytes : goal.returns-clause-bytes
returns-clause-bytes c s given now run = (run_keeps run).blocks

pub returns-clause-place : goal.returns-clause-place
returns-clause-place c s given now run = (run_keeps run).place

pub returns-clause-stands : goal.returns-clause-stands
returns-clause-stands c = run_stands
