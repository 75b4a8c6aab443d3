use Rattle.std.proofs.Common.{◌≡◌, map, take, List}
use Rattle.std.specs.List.{flat_map}
use Rattle.idl_check.specs.Broken.{broken_told}
use Rattle.idl_places.specs.Places.{places_of}
use Rattle.registry_text_model.specs.Rules as rule
use Rattle.uno_model.specs.Entities.{Entity}
use Rattle.idl_check.proofs.each.giving_one_way.Given as goal

abbrev pub invariant-loop-meanings : goal.invariant-loop-meanings
invariant-loop-meanings g l = (reg : List Entity) → places_of l.places.items ≡ flat_map (broken_told rule.one_way reg) (map g.M.Meanings.telling (take l.meanings-index l.all))
