use Rattle.std.specs.Prelude.{◌↔◌}
use Rattle.uno_model.specs.Registry.{IsBaseOf}
use Rattle.uno_types.specs.NearBases.{names_in}
use Rattle.uno_types.proofs.NearLemmas.{AnyBase}
use Rattle.uno_types.proofs.near_bases.near_base.Given as goal

abbrev pub invariant-steps : goal.invariant-steps
invariant-steps l = IsBaseOf l.registry l.to l.fn.from ↔ AnyBase l.registry l.to (names_in l.pending.items)
