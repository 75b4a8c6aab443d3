use Rattle.plan_checks.specs.Checks.{before}
use Rattle.plan_checks.specs.Typed.{behind_list}
use Rattle.plan_lines.specs.Terms.{term_of}
use Rattle.plan_model.specs.Typing.{arguments_of}
use Rattle.plan_types.specs.Expressions.{argument_of}
use Rattle.std.specs.Prelude.{drop, length, map, ◌≡◌}
use Rattle.type_registry.specs.Functions.{lent_function}
use Rattle.plan_checks.proofs.checker.Checker.arguments_of.Given as goal

abbrev pub invariant-loop-term : goal.invariant-loop-term
invariant-loop-term l =
    behind_list (map argument_of l.all.items) (arguments_of l.self.registry.now (before l.self) (drop (length l.all.items) (lent_function l.called).params) (map term_of (drop l.term-index l.terms)))
    ≡ arguments_of l.self.registry.now (before l.self) (lent_function l.called).params (map term_of l.terms)
