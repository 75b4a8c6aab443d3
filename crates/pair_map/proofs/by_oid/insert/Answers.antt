use Rattle.std.proofs.Common.{rules, Some}
use Rattle.pair_map.proofs.Changes.{changed, kept, begun, as_set, then_ok, then_err}
use Rattle.pair_map.proofs.by_oid.insert.Goals as goal

pub returns-in-Some-clause-put : goal.returns-in-Some-clause-put
returns-in-Some-clause-put g c =
    let faces = c.insert.new.self in
    let after = c.get_mut.follows.lender faces in
    let set = (c.get_mut.follows.holds faces).3 (search rules) in
    then_ok c.insert.result
    (λ put. changed c.args.by_oid.now after c.args.oid.now c.in-Some.faces.now c.in-Some.ensures.value
    c.args.face.now c.in_ok-face.face (Some c.args.value) faces put (search rules) set)
    c.insert.ensures.put

pub returns-in-Some-clause-kept : goal.returns-in-Some-clause-kept
returns-in-Some-clause-kept g c =
    let faces = c.insert.new.self in
    let after = c.get_mut.follows.lender faces in
    let set = (c.get_mut.follows.holds faces).3 (search rules) in
    then_err c.insert.result
    (λ same. kept c.args.by_oid.now after c.args.oid.now c.in-Some.faces.now c.in-Some.ensures.value faces set same)
    c.insert.ensures.kept

pub returns-clause-put : goal.returns-clause-put
returns-clause-put g c =
    let before = c.get_mut.follows.holds-at-none in
    let set = as_set _ c.args.by_oid.now c.insert-2.new.self _ c.args.oid.now _ before (search rules) c.in_ok-insert.ensures.updates in
    begun c.args.by_oid.now c.insert-2.new.self c.args.oid.now c.args.face.now c.in_ok-face.face c.args.value (search rules)
    c.lone.result c.lone.ensures (search rules) set
