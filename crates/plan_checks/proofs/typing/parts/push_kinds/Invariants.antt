use Rattle.plan_checks.specs.Parts.{kinds_asked}
use Rattle.literal_reading.specs.Typing.{kinds_at}
use Rattle.std.specs.Prelude.{drop, ◌≡◌}
use Rattle.term_pieces.specs.Fits.{turned}
use Rattle.plan_checks.proofs.typing.parts.push_kinds.Given as goal

abbrev pub invariant-loop-field : goal.invariant-loop-field
invariant-loop-field l = turned (kinds_at (drop l.field-index l.fields)) (kinds_asked l.wanted.items) ≡ turned (kinds_at l.fields) (kinds_asked l.fn.wanted.items)
