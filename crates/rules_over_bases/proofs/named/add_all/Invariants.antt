use Rattle.std.proofs.Common.{take, true, ◌∷◌, []}
use Rattle.std.specs.List.{flat_map}
use Rattle.rules_over_bases.specs.Seen.{Sees}
use Rattle.rules_over_bases.proofs.named.add_all.Given as goal

abbrev pub invariant-loop-thing : goal.invariant-loop-thing
invariant-loop-thing g l = Sees l.fn.seen l.seen (flat_map (λ t. g.T.Named.named t ∷ []) (take l.thing-index l.things)) true
