use Rattle.std.proofs.Common.{◌≡◌}
use Rattle.uno_entities.specs.TypeNames.{kind_of}
use Rattle.registry_reading_model.specs.Kinds as model
use Rattle.registry_reading.proofs.kind.sequences.Given as goal

abbrev pub invariant-loop : goal.invariant-loop
invariant-loop l = kind_of l.kind ≡ model.sequences l.counter (kind_of l.fn.word)
