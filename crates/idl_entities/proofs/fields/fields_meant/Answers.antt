use Rattle.std.proofs.Common.{[], ◌∷◌, map}
use Rattle.registry_reading_model.specs.Changes as changed
use Rattle.idl_meaning_model.specs.Meaning as model
use Rattle.idl_trees.specs.Members.{fields_of}
use Rattle.idl_entities.specs.Telling.{fields_told, line_told}
use Rattle.idl_entities.proofs.Steps.{joined_map_tells, told_on}
use Rattle.idl_entities.proofs.fields.fields_meant.Goals as goal

pub loop-line-preserved : goal.loop-line-preserved
loop-line-preserved g c =
    let t = g.M.Meanings.telling c.args.meanings.now in
    told_on (fields_told t) (line_told t) (joined_map_tells (changed.field_changed t.kept) (model.fields_meant t.all t.declared.modules)) fields_of c.args.fields.now c.loop-line.line-index c.line-item.result _ _
    c.loop-line-test.true c.line-item.is c.loop-line.invariant c.in_ok-add_line.ensures
