use Rattle.std.proofs.Common.{ap, ◌∙◌, [], ◌∷◌, ◌++◌}
use Rattle.idl_trees.specs.Names.{path_of}
use Rattle.idl_entities.specs.Telling.{name_told, names_told}
use Rattle.idl_entities.proofs.Steps.{map_tells, told_on}
use Rattle.idl_entities.proofs.names.names_meant.Goals as goal

pub loop-path-preserved : goal.loop-path-preserved
loop-path-preserved g c =
    let t = g.M.Meanings.telling c.args.meanings.now in
    told_on (names_told t) (λ p. name_told t p ∷ []) (map_tells (name_told t)) path_of c.args.paths.now c.loop-path.path-index c.path-item.result c.loop-path.names.items
    c.push.new.self.items c.loop-path-test.true c.path-item.is c.loop-path.invariant
    (c.in_ok-push.ensures.items ∙ ap (λ k. c.loop-path.names.items ++ k ∷ []) c.in_ok-name.ensures)
