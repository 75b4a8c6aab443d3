use Rattle.std.specs.Prelude.{◌≡◌, map, take}
use Rattle.uno_entities.specs.Entities.{param_of}
use Rattle.uno_entities.proofs.copies.copy_params.Given as goal

abbrev pub invariant-loop-param : goal.invariant-loop-param
invariant-loop-param l = map param_of l.copies.items ≡ map param_of (take l.param-index l.params)
