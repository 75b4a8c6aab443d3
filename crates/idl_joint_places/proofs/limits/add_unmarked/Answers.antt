use Rattle.std.proofs.Common.{◌∙◌, ◌++◌, ap, append-nil, map, sym}
use Rattle.uno_entities.specs.Entities.{entities_of}
use Rattle.registry_text_model.specs.WholeWithinLimits.{is_whole_within_limits}
use Rattle.idl_names.specs.Collected.{declared_of}
use Rattle.idl_places.specs.Places.{places_of}
use Rattle.idl_joint_places.proofs.ThereLemmas.{none_failing}
use Rattle.idl_joint_places.proofs.limits.add_unmarked.Goals as goal

pub returns-then-are_all_marked : goal.returns-then-are_all_marked
returns-then-are_all_marked c =
    sym (ap (λ ps. places_of c.args.places.now.items ++ ps)
    (none_failing (is_whole_within_limits (entities_of c.args.entities.now)) c.args.entities.now c.args.marks.now c.requires.marks (c.are_all_marked.ensures c.if-are_all_marked.true) (map (declared_of c.args.paths.now) c.args.all.now))
    ∙ append-nil (places_of c.args.places.now.items))
