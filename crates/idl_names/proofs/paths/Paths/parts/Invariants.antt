use Rattle.std.proofs.Common.{◌≡◌, ◌++◌, ◌<◌, [], get_or, length, map, reverse}
use Rattle.idl_names.proofs.paths.Paths.parts.Given as goal

-- the identifiers so far are those behind the path that is left
abbrev pub invariant-loop-outer : goal.invariant-loop-outer
invariant-loop-outer l = record {
  low : l.rest < length l.self;
  so_far : get_or l.self l.rest [] ++ reverse (map (λ part. part.now) l.parts.items) ≡ get_or l.self l.number [];
}

abbrev pub decreases-loop-outer : goal.decreases-loop-outer
decreases-loop-outer l = l.rest
