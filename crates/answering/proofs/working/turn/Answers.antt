use Rattle.std.proofs.Common.{map}
use Rattle.behaviour.specs.Roots.{run_of}
use Rattle.answering.proofs.EndLaws.{turned}
use Rattle.answering.proofs.working.turn.Goals as goal

pub returns-clause-turns : goal.returns-clause-turns
returns-clause-turns g c =
    turned c.args.end.now c.do_first-done.new.end (map run_of c.args.runs.now.items) (map run_of c.do_first-done.new.runs.items) _ _ c.do_first-done.result c.know.ensures c.know-2.ensures.leads
    c.do_first-done.ensures.does
