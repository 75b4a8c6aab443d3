use Rattle.std.proofs.Common.{◌≡◌, ◌++◌, map, take}
use Rattle.std.specs.List.{flat_map}
use Rattle.idl_meant.specs.Using.{entity_use, use_of}
use Rattle.idl_names.specs.Used.{used_of}
use Rattle.idl_meant.proofs.uses.add_all.Given as goal

abbrev pub invariant-loop-one : goal.invariant-loop-one
invariant-loop-one l = map use_of l.uses.items ≡ map use_of l.fn.uses.items ++ flat_map (entity_use l.modules) (map used_of (take l.one-index l.used))
