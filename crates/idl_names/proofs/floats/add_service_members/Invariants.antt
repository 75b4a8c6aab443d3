use Rattle.std.proofs.Common.{◌≡◌, ◌++◌, map, take}
use Rattle.std.specs.List.{flat_map}
use Rattle.idl_meaning_model.specs.Uses.{floats, service_types}
use Rattle.idl_trees.specs.Members.{service_member_of}
use Rattle.idl_names.specs.Floats.{places_of}
use Rattle.idl_names.proofs.floats.add_service_members.Given as goal

abbrev pub invariant-loop-member : goal.invariant-loop-member
invariant-loop-member l = places_of l.places.items ≡ places_of l.fn.places.items ++ flat_map floats (flat_map service_types (map service_member_of (take l.member-index l.members)))
