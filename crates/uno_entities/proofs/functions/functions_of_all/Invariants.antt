use Rattle.std.proofs.Common.{◌≡◌, ◌+◌, ◌-◌, ◌^◌, ◌≤◌, min, drop}
use Rattle.uno_entities.specs.Counts.{total_functions}
use Rattle.uno_entities.specs.Entities.{entities_of}
use Rattle.uno_entities.proofs.functions.functions_of_all.Given as goal

abbrev pub invariant-loop-entity : goal.invariant-loop-entity
invariant-loop-entity l =
    (min (l.total + total_functions (entities_of (drop l.entity-index l.entities))) (2 ^ 64 - 1) ≡ min (total_functions (entities_of l.entities)) (2 ^ 64 - 1)) × (l.total ≤ 2 ^ 64 - 1)
