use Rattle.std.proofs.Common.{map, take}
use Rattle.uno_model.specs.Entities as uno
use Rattle.idl_repeated_names.specs.Meeting.{Meets, at_nowhere}
use Rattle.uno_entities.specs.Entities.{field_of}
use Rattle.idl_repeated_names.proofs.own.meet_all.Given as goal

abbrev pub invariant-loop-member : goal.invariant-loop-member
invariant-loop-member l = Meets l.fn.twins l.twins (map (λ (f : uno.Field). at_nowhere f.name) (map field_of (take l.member-index l.members)))
