use Rattle.std.proofs.Common.{append-nil, sym}
use Rattle.std.specs.List.{flat_map}
use Rattle.uno_entities.specs.Entities.{entities_of}
use Rattle.idl_meaning_model.proofs.EachLaws.{each_at}
use Rattle.registry_text_model.specs.WholeWithinLimits.{is_whole_within_limits}
use Rattle.idl_names.specs.Collected.{HasNumbers, declared_of}
use Rattle.idl_places.proofs.Steps.{joined_tells, told_behind}
use Rattle.idl_places.specs.Places.{places_of}
use Rattle.idl_joint_places.specs.There.{failing_there}
use Rattle.idl_joint_places.proofs.limits.add_each_unmarked.Goals as goal

pub loop-declared-init : goal.loop-declared-init
loop-declared-init c = sym (append-nil (places_of c.args.places.now.items))

pub add_if_unmarked-requires-clause-numbers : goal.add_if_unmarked-requires-clause-numbers
add_if_unmarked-requires-clause-numbers c =
    each_at (HasNumbers c.args.paths.now) c.args.all.now c.declared-item.result c.requires.numbers (c.loop-declared.declared-index, c.loop-declared-test.true, sym c.declared-item.is)

pub loop-declared-preserved : goal.loop-declared-preserved
loop-declared-preserved c =
    let each = failing_there (is_whole_within_limits (entities_of c.args.entities.now)) (entities_of c.args.entities.now) in
    told_behind (flat_map each) each (joined_tells each) (declared_of c.args.paths.now) c.args.all.now c.loop-declared.declared-index c.declared-item.result _ _ _
    c.loop-declared-test.true c.declared-item.is c.loop-declared.invariant c.in_ok-add_if_unmarked.ensures
