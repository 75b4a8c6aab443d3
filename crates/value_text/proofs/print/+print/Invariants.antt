use Rattle.std.proofs.Common.{◌≡◌, ◌++◌, drop, true, string_bytes}
use Rattle.literal_model.specs.Literals.{spells, tokens_in}
use Rattle.uno_values.specs.Values.{plains_of}
use Rattle.value_text.proofs.print.+print.Given as goal

abbrev pub invariant-push_all-loop-value : goal.invariant-push_all-loop-value
invariant-push_all-loop-value l =
    string_bytes l.text ++ spells (tokens_in l.registry l.is_first (plains_of (drop l.value-index l.values))) ≡ string_bytes l.fn.text ++ spells (tokens_in l.registry true (plains_of l.values))
