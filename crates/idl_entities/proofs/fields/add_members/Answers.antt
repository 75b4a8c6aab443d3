use Rattle.std.proofs.Common.{refl, List, [], ◌∷◌, map}
use Rattle.idl_entities.specs.Members.{member_of}
use Rattle.uno_entities.specs.Entities.{field_of}
use Rattle.uno_entities.specs.TypeNames.{kind_of}
use Rattle.idl_entities.proofs.Steps.{one_put, told_behind}
use Rattle.idl_entities.proofs.fields.add_members.Goals as goal

pub loop-id-preserved : goal.loop-id-preserved
loop-id-preserved c =
    told_behind (λ ys. ys) (λ y. y ∷ []) (λ ys y. refl) (member_of (kind_of c.args.kind.now)) c.args.names.now c.loop-id.id-index c.id-item.result
    (map field_of c.args.members.now.items) (map field_of c.loop-id.members.items) (map field_of c.push.new.self.items)
    c.loop-id-test.true c.id-item.is c.loop-id.invariant
    (one_put field_of c.loop-id.members.items c.push.new.self.items c.in_ok-member.member _ c.in_ok-push.ensures.items c.in_ok-member.ensures)
