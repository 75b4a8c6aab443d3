use Rattle.std.proofs.Common.{arith}
use Rattle.std.proofs.lemmas.List.{length-map}
use Rattle.uno_entities.specs.Entities.{entity_of, entities_of}
use Rattle.uno_types.proofs.AssignableLemmas.{mark_there, by_mark}
use Rattle.uno_types.proofs.assignable.is_marked.Goals as goal

pub index-requires : goal.index-requires
index-requires c =
    let long = length-map c.args.entities.now entity_of in
    let marked =
    mark_there (entities_of c.args.entities.now) c.args.source c.args.target c.in_ok-marks.marks.items
    (omega (arith, c.requires.source, long)) (omega (arith, c.requires.target, long)) c.in_ok-marks.ensures in
    omega (arith, marked, c.in_ok-marks.marks.ok)

pub returns : goal.returns
returns c =
    let long = length-map c.args.entities.now entity_of in
    by_mark (entities_of c.args.entities.now) c.args.source c.args.target c.in_ok-marks.marks.items c.index.result.now
    (omega (arith, c.requires.source, long)) (omega (arith, c.requires.target, long)) c.in_ok-marks.ensures c.index.ensures
