use Rattle.std.proofs.Common.{ap, ◌∙◌}
use Rattle.uno_model.specs.Values.{own}
use Rattle.uno_model.specs.Values as v
use Rattle.uno_values.specs.declared.reference.Reference.TheVariants as reference
use Rattle.plan_model.specs.Holdings.{with_variable}
use Rattle.plan_types.specs.Frames.{body_of, variables_of}
use Rattle.bridge_model.specs.Settings.{own_oid}
use Rattle.bridge_setting.specs.Settings.{setting_of}
use Rattle.bridge_frames.proofs.CallLemmas.{at_err, at_ok, lasting_gained}
use Rattle.bridge_frames.proofs.OwnLemmas.{plain_ref, with_others}
use Rattle.bridge_frames.proofs.making.go_on_with_object.Goals as goal

pub returns-in-Err-add-clause-lost : goal.returns-in-Err-add-clause-lost
returns-in-Err-add-clause-lost c = lasting_gained c.args.body.number (own c.in-Ok.oid c.args.face) c.args.tables.now c.gain.new.self c.in_default-gain.ensures.gained

pub returns-clause-stacks : goal.returns-clause-stacks
returns-clause-stacks c =
    at_ok c.go_on.result
    (with_others c.args.tid.now (body_of c.args.body) (variables_of c.add.new.variables.items) (variables_of c.add.new.variables.items)
    (with_variable c.args.to (v.ref (own (own_oid (setting_of c.args.setting.now) c.args.number) c.args.face)) (variables_of c.args.body.variables.items)) c.args.stacks.now c.go_on.new.stacks
    (c.in_default-add.ensures.added ∙ ap (λ x. with_variable c.args.to x (variables_of c.args.body.variables.items)) (plain_ref (reference.Local c.in-Ok.oid c.args.face))
    ∙ ap (λ oid. with_variable c.args.to (v.ref (own oid c.args.face)) (variables_of c.args.body.variables.items)) c.in-Ok.ensures))
    c.go_on.ensures

pub returns-clause-lost : goal.returns-clause-lost
returns-clause-lost c = at_err c.go_on.result (lasting_gained c.args.body.number (own c.in-Ok.oid c.args.face) c.args.tables.now c.gain.new.self c.in_default-gain.ensures.gained)
