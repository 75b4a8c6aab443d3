use Rattle.std.specs.Prelude.{◌≡◌, drop}
use Rattle.command_words.specs.Numbers.{number_of, values_of}
use Rattle.command_words.proofs.Values.{number_behind}
use Rattle.command_words.proofs.numbers.number_of.Given as goal

-- what was found, with the values that are left, is the number of all
abbrev pub invariant-loop-choice : goal.invariant-loop-choice
invariant-loop-choice l = number_behind l.found l.option (values_of l.option (drop l.choice-index l.choices)) ≡ number_of l.option (values_of l.option l.choices)
