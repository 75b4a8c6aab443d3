use Rattle.std.specs.List.{AllByRecursion}
use Rattle.std.specs.Prelude.{drop, map}
use Rattle.uno_model.specs.Spellable.{IsSpellable}
use Rattle.uno_values.specs.Values.{plain_of}
use Rattle.bridge_world.proofs.spellable.arguments_are_spellable.Given as goal

abbrev pub invariant-loop-argument : goal.invariant-loop-argument
invariant-loop-argument l = AllByRecursion IsSpellable (map plain_of (drop l.argument-index l.arguments)) → AllByRecursion IsSpellable (map plain_of l.arguments)
