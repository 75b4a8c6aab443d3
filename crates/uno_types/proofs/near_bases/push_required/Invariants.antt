use Rattle.std.specs.Prelude.{◌≡◌, ◌++◌, map, take}
use Rattle.uno_model.specs.Registry.{mandatory_bases}
use Rattle.uno_entities.specs.Entities.{base_of}
use Rattle.uno_types.specs.NearBases.{names_in}
use Rattle.uno_types.proofs.near_bases.push_required.Given as goal

abbrev pub invariant-loop-base : goal.invariant-loop-base
invariant-loop-base l = names_in l.pending.items ≡ names_in l.fn.pending.items ++ mandatory_bases (map base_of (take l.base-index l.bases))
