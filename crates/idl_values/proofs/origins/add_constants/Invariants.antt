use Rattle.std.proofs.Common.{map, take}
use Rattle.idl_trees.specs.Members.{constant_of}
use Rattle.idl_values.specs.Origins.{AddsOrigins, constant_origins}
use Rattle.idl_values.proofs.origins.add_constants.Given as goal

abbrev pub invariant-loop-constant : goal.invariant-loop-constant
invariant-loop-constant l = AddsOrigins l.fn.origins.items (constant_origins (map constant_of (take l.constant-index l.constants))) l.origins.items
