use Rattle.std.proofs.Common.{sym, append-nil, List, [], ◌∷◌}
use Rattle.uno_entities.specs.Entities.{entities_of}
use Rattle.idl_places.specs.Places.{wrong_paths}
use Rattle.idl_rules_model.specs.WherePaths.{names}
use Rattle.entity_rules.specs.Wanted.{is_wanted}
use Rattle.idl_model.specs.Trees as tree
use Rattle.idl_places.proofs.Steps.{told_behind, failing_tells}
use Rattle.idl_places.specs.Places.{places_of}
use Rattle.idl_trees.specs.Names.{path_of}
use Rattle.idl_places.proofs.named.add_all_unnamed.Goals as goal

pub loop-path-init : goal.loop-path-init
loop-path-init g c = sym (append-nil (places_of c.args.places.now.items))

pub loop-path-preserved : goal.loop-path-preserved
loop-path-preserved g c =
    told_behind (λ (ms : List tree.Path). wrong_paths (g.M.Meanings.telling c.args.meanings.now) (entities_of c.args.entities.now) (is_wanted c.args.wanted) ms) (λ (m : tree.Path). wrong_paths (g.M.Meanings.telling c.args.meanings.now) (entities_of c.args.entities.now) (is_wanted c.args.wanted) (m ∷ [])) (failing_tells (names (g.M.Meanings.telling c.args.meanings.now).all (entities_of c.args.entities.now) (is_wanted c.args.wanted) (g.M.Meanings.telling c.args.meanings.now).declared.modules) (λ (p : tree.Path). p.place)) path_of c.args.paths.now c.loop-path.path-index c.path-item.result _ _ _
    c.loop-path-test.true c.path-item.is c.loop-path.invariant c.in_ok-add_unnamed.ensures
