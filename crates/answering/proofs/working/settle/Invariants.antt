use Rattle.std.proofs.Common.{◌≡◌, map}
use Rattle.behaviour.specs.Roots.{run_of}
use Rattle.answering.specs.Ends.{GoesOn}
use Rattle.answering.specs.Running.{AreRoots}
use Rattle.answering.proofs.working.settle.Given as goal

abbrev pub invariant-turns : goal.invariant-turns
invariant-turns g l =
    let taken = g.O.Sink.taken in
    record {
      goes : GoesOn l.fn.end l.end (map run_of l.fn.runs.items) (map run_of l.runs.items) (taken l.fn.output) (taken l.output);
      roots : AreRoots l.end (map run_of l.runs.items);
      faults : g.O.Sink.faults l.output ≡ g.O.Sink.faults l.fn.output;
      stays : g.O.Sink.closed l.output ≡ g.O.Sink.closed l.fn.output;
    }
