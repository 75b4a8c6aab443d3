use Rattle.std.specs.Prelude.{◌≡◌, length, map}
use Rattle.uno_model.specs.Registry.{mandatory_bases}
use Rattle.uno_entities.specs.Entities.{base_of}
use Rattle.type_registry.proofs.bases.last_required.Given as goal

abbrev pub invariant-loop-last : goal.invariant-loop-last
invariant-loop-last l = mandatory_bases (map base_of l.rest) ≡ mandatory_bases (map base_of l.bases)

abbrev pub decreases-loop-last : goal.decreases-loop-last
decreases-loop-last l = length l.rest
