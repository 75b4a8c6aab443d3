use Rattle.std.proofs.Common.{map, take}
use Rattle.std.specs.List.{flat_map}
use Rattle.idl_places.specs.Methods.{giving_back}
use Rattle.idl_rules_model.specs.OneWay.{method_in}
use Rattle.idl_places.specs.Places.{AddsPlaces}
use Rattle.idl_trees.specs.Members.{interface_member_of}
use Rattle.idl_places.proofs.one_way.add_members.Given as goal

abbrev pub invariant-loop-member : goal.invariant-loop-member
invariant-loop-member g l = AddsPlaces l.fn.places.items (giving_back (g.M.Meanings.telling l.meanings) (flat_map method_in (map interface_member_of (take l.member-index l.members)))) l.places.items
