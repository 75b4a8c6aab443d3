use Rattle.std.proofs.Common.{◌≡◌, true, map, length}
use Rattle.behaviour.specs.Roots.{run_of}
use Rattle.bridge_endpoint.specs.Journals.{setting_at, told_at}
use Rattle.bridge_model.specs.Sides.{stands}
use Rattle.answering.specs.Ends.{IsSettled}
use Rattle.answering.specs.Running.{AreRoots}
use Rattle.answering.specs.Turning.{Answers}
use Rattle.answering.proofs.feeding.answer_piece.Given as goal

abbrev pub invariant-fronts : goal.invariant-fronts
invariant-fronts g l =
    let taken = g.O.Sink.taken in
    record {
      setting : setting_at l.end ≡ setting_at l.fn.end;
      answers : Answers (setting_at l.fn.end) (told_at l.fn.end) (told_at l.end) (map run_of l.fn.runs.items) (map run_of l.runs.items) l.piece l.rest (taken l.fn.output) (taken l.output);
      roots : AreRoots l.end (map run_of l.runs.items);
      settled : IsSettled l.end (map run_of l.runs.items);
      up : stands (told_at l.end).side ≡ true;
      faults : g.O.Sink.faults l.output ≡ g.O.Sink.faults l.fn.output;
      stays : g.O.Sink.closed l.output ≡ g.O.Sink.closed l.fn.output;
    }

abbrev pub decreases-fronts : goal.decreases-fronts
decreases-fronts g l = length l.rest
