use Rattle.std.proofs.Common.{◌∙◌, ap, sym}
use Rattle.uno_model.specs.Registry.{find_entity}
use Rattle.uno_model.proofs.PlaceLaws.{at_slice, named_there}
use Rattle.uno_entities.specs.Entities.{entity_of}
use Rattle.default_depths.proofs.TableLaws.{bases_ready, members_ready}
use Rattle.default_depths.proofs.table.depth_at.Goals as goal

pub tuple_depth-requires-clause-bases : goal.tuple_depth-requires-clause-bases
tuple_depth-requires-clause-bases c =
    let reg = c.args.registry.now in
    let e = entity_of c.in-Some.entity.now in
    let at = sym c.in-Some.ensures.value in
    let found = named_there reg c.args.place e c.in-Some.ensures.rising at in
    let is = sym c.is_struct.ensures ∙ c.if-not-is_struct.false in
    bases_ready reg c.in-Some.ensures.rising c.requires.sound c.args.depths.now e _ (ap (λ n. find_entity n reg) c.as_str.ensures ∙ found) is (c.requires.ready e at is)

pub tuple_depth-requires-clause-members : goal.tuple_depth-requires-clause-members
tuple_depth-requires-clause-members c =
    let reg = c.args.registry.now in
    let e = entity_of c.in-Some.entity.now in
    let at = sym c.in-Some.ensures.value in
    let found = named_there reg c.args.place e c.in-Some.ensures.rising at in
    let is = sym c.is_struct.ensures ∙ c.if-not-is_struct.false in
    members_ready reg c.in-Some.ensures.rising c.requires.sound c.args.depths.now e _ found (ap (λ n. find_entity n reg) c.as_str.ensures ∙ found) is (c.requires.ready e at is)

pub returns-clause-within : goal.returns-clause-within
returns-clause-within c =
    let e = entity_of c.in-Some.entity.now in
    (at_slice c.args.registry.now c.args.place e e (sym c.in-Some.ensures.value)).0
