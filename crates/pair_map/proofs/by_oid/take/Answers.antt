use Rattle.std.proofs.Common.{rules, refl, None}
use Rattle.pair_map.proofs.Changes.{changed}
use Rattle.pair_map.proofs.by_oid.take.Goals as goal

pub returns-clause-without : goal.returns-clause-without
returns-clause-without g c =
    let faces = c.remove-value.new.self in
    let after = c.get_mut.follows.lender faces in
    let set = (c.get_mut.follows.holds faces).3 (search rules) in
    changed c.args.by_oid.now after c.args.oid.now c.in-Some.faces.now c.in-Some.ensures.value
    c.args.face.now c.args.face.now None faces c.remove-value.ensures.without refl set
