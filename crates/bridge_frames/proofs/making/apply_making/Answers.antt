use Rattle.plan_types.specs.Frames.{body_of}
use Rattle.bridge_setting.specs.Settings.{setting_of}
use Rattle.bridge_frames.proofs.OwnLemmas.{make_on, still_top}
use Rattle.bridge_frames.proofs.making.apply_making.Goals as goal

pub go_on_with_object-requires-clause-method : goal.go_on_with_object-requires-clause-method
go_on_with_object-requires-clause-method c = still_top c.args.tid.now c.args.stacks.now c.take_method-body.new.stacks c.requires.method c.take_method-body.ensures.taken

pub returns-in-Ok-clause-stacks : goal.returns-in-Ok-clause-stacks
returns-in-Ok-clause-stacks c = λ b fs these.
    make_on c.args.tid.now c.args.stacks.now c.take_method-body.new.stacks c.go_on_with_object.new.stacks b (body_of c.take_method-body.result) fs these c.take_method-body.ensures.top
    c.take_method-body.ensures.taken (setting_of c.args.setting.now) c.args.behaviour c.args.face c.args.to c.in_ok-number.number c.args.tables.now.tables c.in_ok-number.ensures.number c.in-Ok.ensures.stacks
