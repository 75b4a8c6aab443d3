use Rattle.world_model.specs.Worlds.{of_a, of_b, entries_of}
use Rattle.world_model.specs.declared.side.Side.TheVariants.{A, B}
use Rattle.world_laws.proofs.SaidLaws.{fit, both_well, all_names}
use Rattle.world_laws.proofs.WorldLaws.{standing_a, standing_b}
use Rattle.world_laws.proofs.world_laws.standing_holds_in_every_run.Goals as goal

pub returns-clause-a : goal.returns-clause-a
returns-clause-a c g up es w met gives = λ p mine. standing_a g (fit g up) es w met (both_well g up es w met gives) p mine (all_names (of_b g) (entries_of B es) gives.b)

pub returns-clause-b : goal.returns-clause-b
returns-clause-b c g up es w met gives = λ p mine. standing_b g (fit g up) es w met (both_well g up es w met gives) p mine (all_names (of_a g) (entries_of A es) gives.a)
