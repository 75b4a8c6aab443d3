use Rattle.literal_reading.proofs.ScanLemmas.{IsRunTo}
use Rattle.literal_reading.specs.Scanning.{test_of}
use Rattle.literal_reading.proofs.scan.run.split_run.Given as goal

abbrev pub invariant-loop-length : goal.invariant-loop-length
invariant-loop-length l = IsRunTo (test_of l.run) l.bytes l.length
