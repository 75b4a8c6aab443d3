use Rattle.std.specs.Prelude.{◌≡◌, ◌+◌, length, take}
use Rattle.type_registry.specs.Own.{functions_by}
use Rattle.type_registry.specs.Met.{names_at}
use Rattle.type_registry.proofs.own.seek_owners.Given as goal

abbrev pub invariant-loop-place : goal.invariant-loop-place
invariant-loop-place l = l.number ≡ length (functions_by l.registry (names_at (take l.place l.owners))) + l.left
