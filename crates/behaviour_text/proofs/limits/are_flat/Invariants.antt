use Rattle.plan_lines.specs.Terms.{term_of}
use Rattle.plan_model.specs.Limits.{is_flat}
use Rattle.std.specs.List.{list_all}
use Rattle.std.specs.Prelude.{drop, map, ◌≡◌}
use Rattle.behaviour_text.proofs.limits.are_flat.Given as goal

abbrev pub invariant-loop-term : goal.invariant-loop-term
invariant-loop-term l = list_all is_flat (map term_of (drop l.term-index l.terms)) ≡ list_all is_flat (map term_of l.terms)
