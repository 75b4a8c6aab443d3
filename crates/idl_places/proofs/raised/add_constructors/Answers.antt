use Rattle.std.proofs.Common.{sym, subst, append-nil, map, List}
use Rattle.uno_entities.specs.Entities.{entities_of}
use Rattle.idl_places.specs.Places.{wrong_paths}
use Rattle.idl_rules_model.specs.WherePaths.{names}
use Rattle.std.specs.List.{flat_map}
use Rattle.uno_model.specs.Sound.{is_exception}
use Rattle.idl_model.specs.Trees as tree
use Rattle.idl_places.proofs.Steps.{told_behind, failing_joined_tells}
use Rattle.idl_places.specs.Places.{AddsPlaces, places_of}
use Rattle.idl_trees.specs.Names.{path_of}
use Rattle.idl_trees.specs.Members.{constructor_of}
use Rattle.idl_places.proofs.raised.add_constructors.Goals as goal

pub loop-constructor-init : goal.loop-constructor-init
loop-constructor-init g c = sym (append-nil (places_of c.args.places.now.items))

pub loop-constructor-preserved : goal.loop-constructor-preserved
loop-constructor-preserved g c =
    told_behind (λ (ms : List tree.Constructor). wrong_paths (g.M.Meanings.telling c.args.meanings.now) (entities_of c.args.entities.now) is_exception (flat_map (λ (k : tree.Constructor). k.raises) ms)) (λ (m : tree.Constructor). wrong_paths (g.M.Meanings.telling c.args.meanings.now) (entities_of c.args.entities.now) is_exception ((λ (k : tree.Constructor). k.raises) m)) (failing_joined_tells (names (g.M.Meanings.telling c.args.meanings.now).all (entities_of c.args.entities.now) is_exception (g.M.Meanings.telling c.args.meanings.now).declared.modules) (λ (p : tree.Path). p.place) (λ (k : tree.Constructor). k.raises)) constructor_of c.args.constructors.now c.loop-constructor.constructor-index c.constructor-item.result _ _ _
    c.loop-constructor-test.true c.constructor-item.is c.loop-constructor.invariant
    (subst (λ ps. AddsPlaces c.loop-constructor.places.items (wrong_paths (g.M.Meanings.telling c.args.meanings.now) (entities_of c.args.entities.now) is_exception (map path_of ps)) c.add_all_unnamed.new.places.items)
    c.as_slice-raises.ensures.value c.in_ok-add_all_unnamed.ensures)
