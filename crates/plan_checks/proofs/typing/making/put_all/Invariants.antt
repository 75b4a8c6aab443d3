use Rattle.plan_checks.specs.Parts.{MakeOne, laid, stack_of}
use Rattle.std.specs.Prelude.{length, ◌≡◌}
use Rattle.term_pieces.specs.Parts.{put_parts}
use Rattle.plan_checks.proofs.typing.making.put_all.Given as goal

abbrev pub invariant-loop-part : goal.invariant-loop-part
invariant-loop-part l = record {
  makes : MakeOne (stack_of l.made.items) (laid l.parts.items);
  whole : put_parts (stack_of l.made.items) (laid l.parts.items) ≡ put_parts (stack_of l.fn.made.items) (laid l.fn.parts.items);
}

abbrev pub decreases-loop-part : goal.decreases-loop-part
decreases-loop-part l = length l.parts.items
