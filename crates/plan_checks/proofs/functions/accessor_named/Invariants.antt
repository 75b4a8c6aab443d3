use Rattle.std.specs.List.{find, flat_map}
use Rattle.std.specs.Prelude.{drop, map, ◌≡◌}
use Rattle.std.specs.Str.{bytes_eq}
use Rattle.uno_entities.specs.Entities.{member_of}
use Rattle.uno_model.specs.Functions.{accessors_of}
use Rattle.plan_checks.proofs.functions.accessor_named.Given as goal

abbrev pub invariant-loop-member : goal.invariant-loop-member
invariant-loop-member l = find (λ f. bytes_eq l.name f.name) (flat_map (accessors_of l.owner) (map member_of (drop l.member-index l.members))) ≡ find (λ f. bytes_eq l.name f.name) (flat_map (accessors_of l.owner) (map member_of l.members))
