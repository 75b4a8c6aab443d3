use Rattle.std.proofs.Common.{◌≡◌, ◌-◌, length, map}
use Rattle.plan_reading_model.specs.TermReading.{term_at, terms_on}
use Rattle.plan_lines.specs.Fronts.{behind_fronts}
use Rattle.plan_lines.specs.Terms.{term_of}
use Rattle.plan_lines.proofs.arguments.push_arguments.Given as goal

abbrev pub invariant-loop : goal.invariant-loop
invariant-loop l =
    behind_fronts (map term_of l.arguments.items) (terms_on (length l.bytes - l.counter) (term_at l.words) 41 l.rest)
    ≡ behind_fronts (map term_of l.fn.arguments.items) (terms_on (length l.bytes) (term_at l.words) 41 l.bytes)
