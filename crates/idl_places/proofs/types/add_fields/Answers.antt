use Rattle.std.proofs.Common.{sym, append-nil, map, List}
use Rattle.std.specs.List.{flat_map}
use Rattle.idl_places.specs.Standings.{wrong_stand}
use Rattle.uno_entities.specs.Entities.{entities_of}
use Rattle.idl_rules_model.specs.TypePlaces.{as_value}
use Rattle.idl_model.specs.Trees as tree
use Rattle.idl_places.proofs.Steps.{told_behind, joined_mapped_tells}
use Rattle.idl_places.specs.Places.{places_of}
use Rattle.idl_trees.specs.Members.{fields_of}
use Rattle.idl_places.proofs.types.add_fields.Goals as goal

pub loop-line-init : goal.loop-line-init
loop-line-init g c = sym (append-nil (places_of c.args.places.now.items))

pub loop-line-preserved : goal.loop-line-preserved
loop-line-preserved g c =
    told_behind (λ (ms : List tree.Fields). flat_map (wrong_stand (g.M.Meanings.telling c.args.meanings.now) (entities_of c.args.entities.now)) (map (λ p. as_value p.type) ms)) (λ (m : tree.Fields). wrong_stand (g.M.Meanings.telling c.args.meanings.now) (entities_of c.args.entities.now) (as_value m.type)) (joined_mapped_tells (wrong_stand (g.M.Meanings.telling c.args.meanings.now) (entities_of c.args.entities.now)) (λ (p : tree.Fields). as_value p.type)) fields_of c.args.fields.now c.loop-line.line-index c.line-item.result _ _ _
    c.loop-line-test.true c.line-item.is c.loop-line.invariant c.in_ok-add_type.ensures
