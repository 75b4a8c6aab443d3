use Rattle.literal_reading.proofs.ScanLemmas.{IsRunTo}
use Rattle.plan_lines.specs.Classes.{test_of}
use Rattle.plan_lines.proofs.class.split.Given as goal

abbrev pub invariant-loop-length : goal.invariant-loop-length
invariant-loop-length l = IsRunTo (test_of l.class) l.bytes l.length
