use Rattle.std.proofs.Common.{[], ◌∷◌, map}
use Rattle.registry_reading_model.specs.Changes as changed
use Rattle.idl_meaning_model.specs.Meaning as model
use Rattle.idl_trees.specs.Members.{service_member_of}
use Rattle.uno_entities.specs.Entities.{part_of}
use Rattle.idl_entities.specs.Telling.{parts_told, part_told}
use Rattle.idl_entities.proofs.Steps.{one_put, told_on, twice_tells}
use Rattle.idl_entities.proofs.service.parts_meant.Goals as goal

pub loop-member-preserved : goal.loop-member-preserved
loop-member-preserved g c =
    let t = g.M.Meanings.telling c.args.meanings.now in
    told_on (parts_told t) (λ k. part_told t k ∷ []) (twice_tells (changed.part_changed t.kept) (model.part_meant t.all t.declared.modules)) service_member_of c.args.members.now c.loop-member.member-index c.member-item.result
    (map part_of c.loop-member.parts.items) (map part_of c.push.new.self.items) c.loop-member-test.true c.member-item.is c.loop-member.invariant
    (one_put part_of c.loop-member.parts.items c.push.new.self.items c.in_ok-part.part _ c.in_ok-push.ensures.items c.in_ok-part.ensures)
