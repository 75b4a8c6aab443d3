use Rattle.std.proofs.Common.{◌-◌, ◌≡◌, ◌≤◌}
use Rattle.registry_reading_model.specs.Kinds.{sequences}
use Rattle.uno_entities.specs.TypeNames.{kind_of}
use Rattle.idl_meant.proofs.kinds.sequences.Given as goal

abbrev pub invariant-loop-level : goal.invariant-loop-level
invariant-loop-level l = (kind_of l.made ≡ sequences l.level (kind_of l.fn.kind)) × (l.level ≤ l.count)

abbrev pub decreases-loop-level : goal.decreases-loop-level
decreases-loop-level l = l.count - l.level
