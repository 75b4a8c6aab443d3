use Rattle.plan_lines.specs.Terms.{term_of}
use Rattle.plan_model.specs.Forms.{is_root_term}
use Rattle.std.specs.List.{list_all}
use Rattle.std.specs.Prelude.{drop, map, ◌≡◌}
use Rattle.behaviour_text.proofs.places.roots.are_root_arguments.Given as goal

abbrev pub invariant-loop-term : goal.invariant-loop-term
invariant-loop-term l = list_all is_root_term (map term_of (drop l.term-index l.terms)) ≡ list_all is_root_term (map term_of l.terms)
