use Rattle.plan_checks.specs.Checks.{before}
use Rattle.plan_lines.specs.Terms.{term_of}
use Rattle.plan_model.specs.KnownNames.{is_term_known}
use Rattle.std.specs.List.{list_all}
use Rattle.std.specs.Prelude.{drop, map, ◌≡◌}
use Rattle.plan_checks.proofs.checker.Checker.knows_terms.Given as goal

abbrev pub invariant-loop-term : goal.invariant-loop-term
invariant-loop-term l =
    list_all (is_term_known l.self.registry.now (before l.self)) (map term_of (drop l.term-index l.terms)) ≡ list_all (is_term_known l.self.registry.now (before l.self)) (map term_of l.terms)
