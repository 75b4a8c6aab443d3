use Rattle.behaviour_text.specs.Nesting.{depths_of, parentheses_of}
use Rattle.std.specs.Prelude.{drop, length, reverse, ◌≡◌, ◌≤◌}
use Rattle.term_pieces.specs.Depths.{largest}
use Rattle.behaviour_text.proofs.limits.nesting.take_largest.Given as goal

abbrev pub invariant-loop-left : goal.invariant-loop-left
invariant-loop-left l = record {
  depth : largest l.left (depths_of l.levels.items) l.depth ≡ largest l.count (depths_of l.fn.levels.items) 0;
  parentheses : largest l.left (parentheses_of l.levels.items) l.parentheses ≡ largest l.count (parentheses_of l.fn.levels.items) 0;
  rest : drop l.left (reverse l.levels.items) ≡ drop l.count (reverse l.fn.levels.items);
  enough : l.left ≤ length l.levels.items;
}

abbrev pub decreases-loop-left : goal.decreases-loop-left
decreases-loop-left l = l.left
