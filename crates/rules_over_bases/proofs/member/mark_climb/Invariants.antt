use Rattle.std.proofs.Common.{◌<◌, length, true}
use Rattle.uno_model.specs.Sound.{has_member}
use Rattle.uno_entities.specs.Entities.{entities_of}
use Rattle.rules_over_bases.specs.Known.{KeepsAt, KnownMembers}
use Rattle.rules_over_bases.proofs.member.mark_climb.Given as goal

abbrev pub invariant-loop : goal.invariant-loop
invariant-loop l =
    record {
      within : l.at < length l.entities;
      member : KeepsAt (has_member (entities_of l.entities)) (entities_of l.entities) l.at true;
      known : KnownMembers (entities_of l.entities) l.known;
    }
