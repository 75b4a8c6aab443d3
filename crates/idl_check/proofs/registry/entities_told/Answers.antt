use Rattle.std.proofs.Common.{◌≤◌, ◌∙◌, [], ◌∷◌, ap, length, map, arith}
use Rattle.std.proofs.lemmas.List.{take_all}
use Rattle.idl_check.proofs.EachLemmas.{mapped_tells, one_put}
use Rattle.idl_entities.specs.Telling.{entity_told}
use Rattle.idl_places.proofs.Steps.{told_behind}
use Rattle.uno_entities.specs.Entities.{entities_of, entity_of}
use Rattle.idl_check.proofs.registry.entities_told.Goals as goal

pub loop-meanings-preserved : goal.loop-meanings-preserved
loop-meanings-preserved g c =
    told_behind (map entity_told) (λ t. entity_told t ∷ []) (mapped_tells entity_told) g.M.Meanings.telling c.args.all.now c.loop-meanings.meanings-index c.meanings-item.result
    [] (entities_of c.loop-meanings.entities.items) (entities_of c.push.new.self.items) c.loop-meanings-test.true c.meanings-item.is c.loop-meanings.invariant
    (one_put entity_of c.loop-meanings.entities.items c.push.new.self.items c.in_ok-entity.entity (entity_told (g.M.Meanings.telling c.meanings-item.result)) c.in_ok-push.ensures.items c.in_ok-entity.ensures)

pub returns : goal.returns
returns g c =
    let end : length c.args.all.now ≤ c.loop-meanings.meanings-index = omega (arith, c.loop-meanings-test.false) in
    c.loop-meanings.invariant ∙ ap (λ ms. map entity_told (map g.M.Meanings.telling ms)) (take_all c.loop-meanings.meanings-index c.args.all.now end)
