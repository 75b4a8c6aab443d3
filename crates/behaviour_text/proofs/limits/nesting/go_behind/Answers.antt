use Rattle.behaviour_text.proofs.NestingLemmas.{depth_put, parentheses_put}
use Rattle.plan_lines.specs.Pieces.{piece_of}
use Rattle.behaviour_text.proofs.limits.nesting.go_behind.Goals as goal

pub returns-clause-depth : goal.returns-clause-depth
returns-clause-depth c =
    λ done same. depth_put (piece_of c.args.piece.now) c.args.levels.now.items c.take_largest-most.new.levels.items _ _ _ _ c.requires c.held.ensures c.take_largest-most.ensures.rest c.in_ok-push.ensures.items done
    c.take_largest-most.ensures.depth c.depth_round-depth.ensures same

pub returns-clause-parentheses : goal.returns-clause-parentheses
returns-clause-parentheses c =
    λ done same. parentheses_put (piece_of c.args.piece.now) c.args.levels.now.items c.take_largest-most.new.levels.items _ _ _ _ c.requires c.held.ensures c.take_largest-most.ensures.rest c.in_ok-push.ensures.items done
    c.take_largest-most.ensures.parentheses c.parentheses_round-parentheses.ensures same
