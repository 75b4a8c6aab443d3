use Rattle.std.proofs.Common.{map, take}
use Rattle.std.specs.List.{flat_map}
use Rattle.idl_places.specs.Setters.{setting_wrongly}
use Rattle.idl_rules_model.specs.Raised.{attribute_in}
use Rattle.idl_places.specs.Places.{AddsPlaces}
use Rattle.idl_trees.specs.Members.{interface_member_of}
use Rattle.idl_places.proofs.raised.add_setters.Given as goal

abbrev pub invariant-loop-member : goal.invariant-loop-member
invariant-loop-member l = AddsPlaces l.fn.places.items (setting_wrongly (flat_map attribute_in (map interface_member_of (take l.member-index l.members)))) l.places.items
