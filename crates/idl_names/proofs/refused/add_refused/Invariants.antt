use Rattle.std.proofs.Common.{map, take}
use Rattle.idl_names.specs.Faults.{AddsFaults, refused_at}
use Rattle.idl_trees.specs.Names.{place_of}
use Rattle.idl_names.proofs.refused.add_refused.Given as goal

abbrev pub invariant-loop-place : goal.invariant-loop-place
invariant-loop-place l = AddsFaults l.fn.faults.items (map refused_at (map place_of (take l.place-index l.places))) l.faults.items
