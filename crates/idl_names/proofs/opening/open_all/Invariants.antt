use Rattle.std.proofs.Common.{map, take}
use Rattle.idl_names.proofs.OpenLemmas.{OpensTo}
use Rattle.idl_names.proofs.opening.open_all.Given as goal

abbrev pub invariant-loop-name : goal.invariant-loop-name
invariant-loop-name l = OpensTo l.fn.paths (map (λ name. name.now) (take l.name-index l.names)) l.paths l.number
