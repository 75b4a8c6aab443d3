use Rattle.std.proofs.Common.{◌≡◌, true, [], map, length}
use Rattle.behaviour.specs.Roots.{run_of}
use Rattle.bridge_endpoint.specs.Journals.{setting_at, told_at}
use Rattle.bridge_model.specs.Sides.{stands}
use Rattle.answering.specs.Ends.{IsSettled}
use Rattle.answering.specs.Serving.{Holds}
use Rattle.answering.specs.Running.{AreRoots}
use Rattle.answering.proofs.serving.serve.Given as goal

abbrev pub invariant-pieces : goal.invariant-pieces
invariant-pieces g l =
    let left = g.I.Source.left in
    let taken = g.O.Sink.taken in
    record {
      setting : setting_at l.end ≡ setting_at l.fn.end;
      holds : Holds (setting_at l.fn.end) (left l.fn.input) (left l.input) (taken l.fn.output) (taken l.output) (told_at l.end) (map run_of l.runs.items) [];
      roots : AreRoots l.end (map run_of l.runs.items);
      settled : IsSettled l.end (map run_of l.runs.items);
      up : stands (told_at l.end).side ≡ true;
      room : length l.buffer ≡ 4096;
      input_faults : g.I.Source.faults l.input ≡ g.I.Source.faults l.fn.input;
      faults : g.O.Sink.faults l.output ≡ g.O.Sink.faults l.fn.output;
      stays : g.O.Sink.closed l.output ≡ g.O.Sink.closed l.fn.output;
    }
