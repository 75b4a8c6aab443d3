use Rattle.std.proofs.Common.{◌≡◌, ◌≤◌, length, take}
use Rattle.idl_meant.specs.Starting.{count_in, starts_of}
use Rattle.idl_types.specs.Bodies.{bodies_of}
use Rattle.idl_meant.proofs.starts.starts.Given as goal

abbrev pub invariant-loop-declared : goal.invariant-loop-declared
invariant-loop-declared l = (l.starts.items ≡ starts_of (bodies_of l.all) l.declared-index) × (l.next ≡ count_in (take l.declared-index (bodies_of l.all))) × (l.declared-index ≤ length l.all)
