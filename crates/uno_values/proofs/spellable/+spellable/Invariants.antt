use Rattle.std.specs.Prelude.{drop}
use Rattle.uno_model.specs.Spellable.{AreSpellable}
use Rattle.uno_values.proofs.spellable.+spellable.Given as goal
use Rattle.uno_values.specs.Values.{plains_of}

abbrev pub invariant-all_values_are_spellable-loop-value : goal.invariant-all_values_are_spellable-loop-value
invariant-all_values_are_spellable-loop-value l = AreSpellable (plains_of (drop l.value-index l.values)) → AreSpellable (plains_of l.values)
