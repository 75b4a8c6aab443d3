use Rattle.std.proofs.Common.{◌≡◌}
use Rattle.plan_reading_model.specs.TermReading.{term_at}
use Rattle.term_pieces.specs.Opened.{comes_of}
use Rattle.plan_lines.specs.Opened.{opened, place_of, standing, read_at, work, IsReady}
use Rattle.plan_lines.specs.Pieces.{pieces_of}
use Rattle.plan_lines.proofs.terms.Terms.push.Given as goal

abbrev pub invariant-loop-place : goal.invariant-loop-place
invariant-loop-place l =
    (comes_of l.self.words.now (opened l.stack.items) (standing l.pieces.items) (place_of l.place) ≡ term_at l.self.words.now l.bytes)
    × IsReady (opened l.stack.items) (pieces_of l.pieces.items) (read_at (place_of l.place))

abbrev pub decreases-loop-place : goal.decreases-loop-place
decreases-loop-place l = work (opened l.stack.items) (place_of l.place)
