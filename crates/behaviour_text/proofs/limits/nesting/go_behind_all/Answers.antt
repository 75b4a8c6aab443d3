use Rattle.std.proofs.Common.{ap, map, ◌∙◌}
use Rattle.plan_lines.specs.Pieces.{piece_of}
use Rattle.plan_model.specs.Limits.{term_depth, parentheses}
use Rattle.behaviour_text.proofs.NestingLemmas.{all_done, done_at, finds, more_done, none_done}
use Rattle.behaviour_text.specs.Nesting.{counted}
use Rattle.behaviour_text.proofs.limits.nesting.go_behind_all.Goals as goal

pub loop-piece-init : goal.loop-piece-init
loop-piece-init c =
    record {
      depths = none_done piece_of c.args.pieces.now (λ l. l.depth) term_depth c.args.levels.now.items c.requires.nothing;
      counts = none_done piece_of c.args.pieces.now (λ l. l.parentheses) parentheses c.args.levels.now.items c.requires.nothing;
    }

pub go_behind-requires : goal.go_behind-requires
go_behind-requires c = finds piece_of c.args.pieces.now _ _ c.loop-piece-test.true c.piece-item.is (λ l. l.depth) term_depth _ c.requires.one c.loop-piece.invariant.depths

pub loop-piece-preserved : goal.loop-piece-preserved
loop-piece-preserved c =
    record {
      depths =
          c.in_ok-go_behind.ensures.depth (done_at piece_of c.args.pieces.now c.loop-piece.piece-index) c.loop-piece.invariant.depths
          ∙ ap (λ ts. map counted (map term_depth ts)) (more_done piece_of c.args.pieces.now _ _ c.loop-piece-test.true c.piece-item.is);
      counts =
          c.in_ok-go_behind.ensures.parentheses (done_at piece_of c.args.pieces.now c.loop-piece.piece-index) c.loop-piece.invariant.counts
          ∙ ap (λ ts. map counted (map parentheses ts)) (more_done piece_of c.args.pieces.now _ _ c.loop-piece-test.true c.piece-item.is);
    }

pub returns-clause-depth : goal.returns-clause-depth
returns-clause-depth c = all_done piece_of c.args.pieces.now (λ l. l.depth) term_depth c.loop-piece.levels.items _ c.loop-piece-test.false c.requires.one c.loop-piece.invariant.depths

pub returns-clause-parentheses : goal.returns-clause-parentheses
returns-clause-parentheses c = all_done piece_of c.args.pieces.now (λ l. l.parentheses) parentheses c.loop-piece.levels.items _ c.loop-piece-test.false c.requires.one c.loop-piece.invariant.counts
