use Rattle.std.proofs.Common.{◌≡◌, map, take}
use Rattle.std.specs.List.{flat_map}
use Rattle.idl_meant.specs.Using.{entity_uses, use_of}
use Rattle.idl_meant.proofs.uses.all_uses.Given as goal

abbrev pub invariant-loop-declared : goal.invariant-loop-declared
invariant-loop-declared l = map use_of l.uses.items ≡ flat_map entity_uses (take l.declared-index l.all)
