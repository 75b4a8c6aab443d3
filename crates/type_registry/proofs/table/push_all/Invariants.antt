use Rattle.std.specs.Prelude.{◌≡◌, ◌++◌, drop}
use Rattle.type_registry.specs.Own.{functions_by}
use Rattle.type_registry.specs.Functions.{functions_at}
use Rattle.type_registry.specs.Met.{names_at}
use Rattle.type_registry.proofs.table.push_all.Given as goal

abbrev pub invariant-loop-owner : goal.invariant-loop-owner
invariant-loop-owner l =
    functions_at l.table.items ++ functions_by l.registry (names_at (drop l.owner-index l.owners))
    ≡ functions_at l.fn.table.items ++ functions_by l.registry (names_at l.owners)
