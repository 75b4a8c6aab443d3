use Rattle.std.specs.Option.{option_map}
use Rattle.plan_lines.specs.Pieces.{piece_of}
use Rattle.uno_entities.specs.TypeNames.{kind_of}
use Rattle.plan_checks.proofs.PartLemmas.{named_on, named_end}
use Rattle.plan_checks.specs.Parts.{named_in}
use Rattle.plan_checks.proofs.checker.Checker.push_named.Goals as goal

pub loop-piece-preserved : goal.loop-piece-preserved
loop-piece-preserved c =
    named_on (option_map kind_of) piece_of (named_in c.args.self.now.registry.now) _ _ _ _ _ _ _ c.loop-piece-test.true c.piece-item.is c.in_ok-kind.ensures
    c.in_ok-push.ensures.items c.loop-piece.invariant

pub returns : goal.returns
returns c = named_end (option_map kind_of) piece_of (named_in c.args.self.now.registry.now) _ _ _ _ c.loop-piece-test.false c.loop-piece.invariant
