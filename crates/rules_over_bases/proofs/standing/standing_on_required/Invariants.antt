use Rattle.std.proofs.Common.{◌≡◌, length, map}
use Rattle.uno_entities.specs.Entities.{base_of}
use Rattle.uno_model.specs.Registry.{mandatory_bases}
use Rattle.rules_over_bases.proofs.standing.standing_on_required.Given as goal

abbrev pub invariant-loop-base : goal.invariant-loop-base
invariant-loop-base l = mandatory_bases (map base_of l.rest) ≡ mandatory_bases (map base_of l.bases)

abbrev pub decreases-loop-base : goal.decreases-loop-base
decreases-loop-base l = length l.rest
