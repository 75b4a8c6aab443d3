use Rattle.std.proofs.Common.{rules, refl, Some}
use Rattle.pair_map.proofs.Changes.{changed}
use Rattle.pair_map.proofs.by_oid.replace.Goals as goal

pub returns-clause-put : goal.returns-clause-put
returns-clause-put g c =
    let faces = c.replace.new.self in
    let after = c.get_mut.follows.lender faces in
    let set = (c.get_mut.follows.holds faces).3 (search rules) in
    changed c.args.by_oid.now after c.args.oid.now c.in-Some.faces.now c.in-Some.ensures.value
    c.args.face.now c.args.face.now (Some c.args.value) faces c.replace.ensures.put refl set
