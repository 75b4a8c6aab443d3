use Rattle.std.proofs.Common.{◌≡◌, List, map, take}
use Rattle.idl_meaning_model.specs.Declarations.{all_valued}
use Rattle.idl_names.specs.Collected.{declared_of}
use Rattle.idl_names.specs.Paths.{Parts}
use Rattle.idl_values.specs.Origins.{all_origins, origins_of}
use Rattle.idl_values.proofs.origins.declared_origins.Given as goal

abbrev pub invariant-loop-declared : goal.invariant-loop-declared
invariant-loop-declared l = (paths : List Parts) → origins_of l.origins.items ≡ all_origins (all_valued (map (declared_of paths) (take l.declared-index l.all)))
