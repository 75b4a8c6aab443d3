use Rattle.std.proofs.Common.{map, take}
use Rattle.uno_model.specs.Registry.{mandatory_bases}
use Rattle.uno_entities.specs.Entities.{entities_of, base_of}
use Rattle.uno_entities.specs.Spreading.{Spreads}
use Rattle.uno_entities.proofs.bases.mark_required.Given as goal

abbrev pub invariant-loop-base : goal.invariant-loop-base
invariant-loop-base l =
    Spreads (entities_of l.entities) (mandatory_bases (map base_of (take l.base-index l.bases))) l.fn.search.marks.items l.fn.search.pending.items l.search.marks.items l.search.pending.items
