use Rattle.std.proofs.Common.{◌≡◌, ◌≤◌, max, map, drop}
use Rattle.uno_entities.specs.Entities.{field_of}
use Rattle.default_depths.specs.Depths.{deepest, told}
use Rattle.default_depths.proofs.nested.deepest.Given as goal

-- the greatest depth of all is that so far, or that of those behind
abbrev pub invariant-loop-member : goal.invariant-loop-member
invariant-loop-member l = record {
  whole : told (max l.deepest (deepest l.registry (map field_of (drop l.member-index l.members)))) ≡ told (deepest l.registry (map field_of l.members));
  low : l.deepest ≤ 1025;
}
