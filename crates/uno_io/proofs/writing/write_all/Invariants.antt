use Rattle.std.proofs.Common.{◌≡◌, length}
use Rattle.uno_io.proofs.Pieces.{TookBut}
use Rattle.uno_io.proofs.writing.write_all.Given as goal

abbrev pub invariant-loop-rest : goal.invariant-loop-rest
invariant-loop-rest g l = record {
  taken : TookBut l.rest (g.S.Sink.taken l.fn.sink) (g.S.Sink.taken l.sink) l.bytes;
  faults : g.S.Sink.faults l.sink ≡ g.S.Sink.faults l.fn.sink;
  stays : g.S.Sink.closed l.sink ≡ g.S.Sink.closed l.fn.sink;
}

abbrev pub decreases-loop-rest : goal.decreases-loop-rest
decreases-loop-rest g l = length l.rest
