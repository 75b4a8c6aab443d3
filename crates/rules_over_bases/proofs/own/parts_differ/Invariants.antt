use Rattle.std.proofs.Common.{take, true}
use Rattle.std.specs.List.{flat_map}
use Rattle.uno_entities.specs.Entities.{part_of}
use Rattle.uno_model.specs.Uses.{part_names}
use Rattle.rules_over_bases.specs.Seen.{Sees}
use Rattle.rules_over_bases.proofs.own.parts_differ.Given as goal

abbrev pub invariant-loop-part : goal.invariant-loop-part
invariant-loop-part l = Sees l.initial.seen l.seen (flat_map (λ p. part_names (part_of p)) (take l.part-index l.parts)) true
