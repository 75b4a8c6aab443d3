use Rattle.std.proofs.Common.{◌≡◌, drop, map}
use Rattle.std.specs.List.{list_any}
use Rattle.std.specs.Str.{bytes_eq}
use Rattle.rules_over_bases.proofs.named.is_among.Given as goal

abbrev pub invariant-loop-thing : goal.invariant-loop-thing
invariant-loop-thing g l = list_any (bytes_eq l.name) (map g.T.Named.named (drop l.thing-index l.things)) ≡ list_any (bytes_eq l.name) (map g.T.Named.named l.things)
