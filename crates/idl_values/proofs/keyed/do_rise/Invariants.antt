use Rattle.std.proofs.Common.{take}
use Rattle.idl_values.proofs.KeyLemmas.{RiseBelow}
use Rattle.idl_values.proofs.keyed.do_rise.Given as goal

abbrev pub invariant-loop-key : goal.invariant-loop-key
invariant-loop-key l = RiseBelow l.low (take l.key-index l.keys)
