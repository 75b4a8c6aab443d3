use Rattle.plan_checks.specs.Parts.{named_in}
use Rattle.plan_lines.specs.Pieces.{pieces_of}
use Rattle.std.specs.Option.{option_map}
use Rattle.std.specs.Prelude.{drop, map, ◌++◌, ◌≡◌}
use Rattle.uno_entities.specs.TypeNames.{kind_of}
use Rattle.plan_checks.proofs.checker.Checker.push_named.Given as goal

abbrev pub invariant-loop-piece : goal.invariant-loop-piece
invariant-loop-piece l =
    map (option_map kind_of) l.named.items ++ map (named_in l.self.registry.now) (pieces_of (drop l.piece-index l.pieces))
    ≡ map (option_map kind_of) l.fn.named.items ++ map (named_in l.self.registry.now) (pieces_of l.pieces)
