use Rattle.plan_checks.specs.Parts.{kinds_asked}
use Rattle.std.specs.Prelude.{◌≡◌}
use Rattle.term_pieces.specs.Fits.{times}
use Rattle.uno_entities.specs.TypeNames.{kind_of}
use Rattle.plan_checks.proofs.typing.parts.push_times.Given as goal

abbrev pub invariant-loop-left : goal.invariant-loop-left
invariant-loop-left l = times l.left (kind_of l.kind) (kinds_asked l.wanted.items) ≡ times l.count (kind_of l.kind) (kinds_asked l.fn.wanted.items)

abbrev pub decreases-loop-left : goal.decreases-loop-left
decreases-loop-left l = l.left
