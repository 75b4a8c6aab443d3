use Rattle.std.specs.Prelude.{◌≡◌, ◌++◌, map, drop}
use Rattle.std.specs.List.{flat_map}
use Rattle.uno_entities.specs.Entities.{member_of}
use Rattle.type_registry.specs.Own.{functions_in}
use Rattle.type_registry.specs.Functions.{functions_at}
use Rattle.type_registry.proofs.own.push_members.Given as goal

abbrev pub invariant-loop-member : goal.invariant-loop-member
invariant-loop-member l =
    functions_at l.table.items ++ flat_map (functions_in l.group l.owner) (map member_of (drop l.member-index l.members))
    ≡ functions_at l.fn.table.items ++ flat_map (functions_in l.group l.owner) (map member_of l.members)
