use Rattle.std.proofs.Common.{rules}
use Rattle.uno_entities.proofs.FindingLemmas.{place_there}
use Rattle.uno_types.proofs.registry.gap_in.Goals as goal

pub returns-in-Ok : goal.returns-in-Ok
returns-in-Ok c = search (rules, place_there)
