use Rattle.std.specs.Prelude.{◌≡◌, ◌++◌, length}
use Rattle.uno_model.specs.Registry.{all_members}
use Rattle.uno_types.specs.Members.{fields_at, stacked}
use Rattle.uno_types.proofs.registry.Registry.members.Given as goal

abbrev pub invariant-loop-own : goal.invariant-loop-own
invariant-loop-own l = fields_at l.all.items ++ stacked l.stack.items ≡ all_members l.self l.name

abbrev pub decreases-loop-own : goal.decreases-loop-own
decreases-loop-own l = length l.stack.items
