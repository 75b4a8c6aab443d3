use Rattle.std.specs.Prelude.{◌≡◌, ◌++◌}
use denote.Text.{Utf8}
use denote.Shadow.{shadow}
use Rattle.uno_model.specs.Registry.{members_within}
use Rattle.uno_types.specs.Members.{stacked}
use Rattle.uno_types.proofs.all_members.stack_within.Given as goal

abbrev pub invariant-loop-left : goal.invariant-loop-left
invariant-loop-left l = shadow (Utf8 l.at) × (members_within l.left l.registry l.at ++ stacked l.stack.items ≡ members_within l.levels l.registry l.fn.name)

abbrev pub decreases-loop-left : goal.decreases-loop-left
decreases-loop-left l = l.left
