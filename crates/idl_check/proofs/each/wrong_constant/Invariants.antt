use Rattle.std.proofs.Common.{◌≡◌, map, take, List}
use Rattle.std.specs.List.{flat_map}
use Rattle.idl_check.specs.Broken.{broken_told}
use Rattle.idl_places.specs.Places.{places_of}
use Rattle.registry_text_model.specs.Rules as rule
use Rattle.uno_model.specs.Entities.{Entity}
use Rattle.idl_check.proofs.each.wrong_constant.Given as goal

abbrev pub invariant-loop-number : goal.invariant-loop-number
invariant-loop-number g l = (reg : List Entity) → places_of l.places.items ≡ flat_map (broken_told rule.constant_values reg) (map g.M.Meanings.telling (take l.number l.all))
