use Rattle.uno_values.specs.Values.{plain_of}
use Rattle.plan_types.specs.Frames.{body_of, variable_of}
use Rattle.bridge_setting.specs.Settings.{setting_of}
use Rattle.bridge_frames.proofs.CallLemmas.{at_any, at_ok}
use Rattle.bridge_frames.proofs.OwnLemmas.{field_held, field_on, still_top}
use Rattle.bridge_frames.proofs.own.apply_set_field.Goals as goal

pub go_on-requires : goal.go_on-requires
go_on-requires c = still_top c.args.tid.now c.args.stacks.now c.take_method-body.new.stacks c.requires.method c.take_method-body.ensures.taken

pub returns-clause-stacks : goal.returns-clause-stacks
returns-clause-stacks c = λ b fs these.
    at_any c.set_field.result
    (field_on c.args.tid.now c.args.stacks.now c.take_method-body.new.stacks c.go_on.new.stacks b (body_of c.take_method-body.result) fs these c.take_method-body.ensures.top c.take_method-body.ensures.taken
    (variable_of c.args.variable) (setting_of c.args.setting.now) c.args.tables.now.tables c.in_default.ensures)

pub returns-clause-tables : goal.returns-clause-tables
returns-clause-tables c = λ b fs these.
    at_ok c.set_field.result
    (field_held c.args.tid.now c.args.stacks.now b (body_of c.take_method-body.result) fs these c.take_method-body.ensures.top (setting_of c.args.setting.now) c.args.tables.now c.set_field.new.self
    c.args.variable.name (plain_of c.args.variable.value))
    c.set_field.ensures.set
