use Rattle.plan_checks.specs.Checks.{before}
use Rattle.plan_lines.specs.Terms.{term_of}
use Rattle.plan_model.specs.Typing.{arguments_of}
use Rattle.std.specs.Prelude.{drop, is_some, map, ◌≡◌}
use Rattle.type_registry.specs.Functions.{lent_function}
use Rattle.plan_checks.proofs.checker.Checker.arguments_fit.Given as goal

abbrev pub invariant-loop-term : goal.invariant-loop-term
invariant-loop-term l =
    (is_some (arguments_of l.self.registry.now (before l.self) (drop l.term-index (lent_function l.called).params) (map term_of (drop l.term-index l.terms)))
    ≡ is_some (arguments_of l.self.registry.now (before l.self) (lent_function l.called).params (map term_of l.terms)))
    × (l.place ≡ l.term-index)
