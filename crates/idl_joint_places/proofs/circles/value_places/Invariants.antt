use Rattle.std.proofs.Common.{◌≡◌, List, map, take}
use Rattle.idl_meaning_model.specs.Declarations.{all_valued}
use Rattle.idl_names.specs.Collected.{declared_of}
use Rattle.idl_names.specs.Paths.{Parts}
use Rattle.idl_places.specs.Places.{places_of}
use Rattle.idl_joint_places.proofs.circles.value_places.Given as goal

abbrev pub invariant-loop-declared : goal.invariant-loop-declared
invariant-loop-declared l = (paths : List Parts) → places_of l.places.items ≡ map (λ v. v.name.place) (all_valued (map (declared_of paths) (take l.declared-index l.all)))
