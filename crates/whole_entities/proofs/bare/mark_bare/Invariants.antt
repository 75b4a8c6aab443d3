use Rattle.std.proofs.Common.{◌<◌, length, false}
use Rattle.uno_model.specs.Sound.{has_member}
use Rattle.uno_entities.specs.Entities.{entities_of}
use Rattle.rules_over_bases.specs.Known.{KeepsAt}
use Rattle.whole_entities.specs.Bare.{KnownBare}
use Rattle.whole_entities.proofs.bare.mark_bare.Given as goal

abbrev pub invariant-loop : goal.invariant-loop
invariant-loop l = record {
  within : l.at < length l.entities;
  none : KeepsAt (has_member (entities_of l.entities)) (entities_of l.entities) l.at false;
  bare : KnownBare (entities_of l.entities) l.bare;
}
