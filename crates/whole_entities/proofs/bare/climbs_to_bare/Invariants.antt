use Rattle.std.proofs.Common.{◌+◌, ◌-◌, length}
use Rattle.uno_entities.specs.Entities.{entities_of}
use Rattle.rules_over_bases.proofs.ClimbLemmas.{Climbing}
use Rattle.whole_entities.proofs.bare.climbs_to_bare.Given as goal

abbrev pub invariant-loop : goal.invariant-loop
invariant-loop l = Climbing (entities_of l.entities) l.place l.at (length l.entities + 1 - l.counter)
