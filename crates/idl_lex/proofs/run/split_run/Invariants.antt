use Rattle.idl_lex.specs.Runs.{test_of}
use Rattle.idl_lex.proofs.RunLemmas.{IsRunTo}
use Rattle.idl_lex.proofs.run.split_run.Given as goal

abbrev pub invariant-loop-length : goal.invariant-loop-length
invariant-loop-length l = IsRunTo (test_of l.run) l.bytes l.length
