use Rattle.std.proofs.Common.{◌≡◌, ◌+◌, ◌*◌, map, drop}
use Rattle.std.specs.List.{list_any}
use Rattle.uno_model.specs.Reaches.{reaches_within}
use Rattle.uno_model.specs.Registry.{mandatory_bases}
use Rattle.uno_entities.specs.Entities.{base_of}
use Rattle.uno_types.proofs.assignable.+reach.Given as goal

abbrev pub decreases-reaches : goal.decreases-reaches
decreases-reaches l = 3 * l.levels

abbrev pub decreases-bases_reach : goal.decreases-bases_reach
decreases-bases_reach l = 3 * l.levels + 2

abbrev pub decreases-required_reach : goal.decreases-required_reach
decreases-required_reach l = 3 * l.levels + 1

abbrev pub decreases-base_reaches : goal.decreases-base_reaches
decreases-base_reaches l = 3 * l.levels + 1

abbrev pub invariant-required_reach-loop-base : goal.invariant-required_reach-loop-base
invariant-required_reach-loop-base l =
    list_any (reaches_within l.levels l.registry l.to) (mandatory_bases (map base_of (drop l.base-index l.bases)))
    ≡ list_any (reaches_within l.levels l.registry l.to) (mandatory_bases (map base_of l.bases))
