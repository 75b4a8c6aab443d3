use Rattle.std.proofs.Common.{refl}
use Rattle.uno_model.specs.Values.{refs}
use Rattle.uno_values.specs.Values.{plain_of}
use Rattle.plan_types.specs.Frames.{body_of, variables_of}
use Rattle.bridge_setting.specs.Settings.{setting_of}
use Rattle.bridge_frames.proofs.CallLemmas.{at_any, at_err, at_ok, lasting_all_gained}
use Rattle.bridge_frames.proofs.OwnLemmas.{let_held, let_on, still_top}
use Rattle.bridge_frames.proofs.own.apply_let.Goals as goal

pub returns-in-Err-add-clause-lost : goal.returns-in-Err-add-clause-lost
returns-in-Err-add-clause-lost c =
    lasting_all_gained c.take_method-body.result.number (refs (plain_of c.args.variable.value)) c.args.tables.now c.gain_value.new.tables c.in_default.ensures.gained

pub go_on-requires : goal.go_on-requires
go_on-requires c = still_top c.args.tid.now c.args.stacks.now c.take_method-body.new.stacks c.requires.method c.take_method-body.ensures.taken

pub returns-clause-stacks : goal.returns-clause-stacks
returns-clause-stacks c = λ b fs these.
    at_ok c.go_on.result
    (let_on c.args.tid.now c.args.stacks.now c.take_method-body.new.stacks c.go_on.new.stacks b (body_of c.take_method-body.result) fs these c.take_method-body.ensures.top c.take_method-body.ensures.taken
    c.args.variable.name (plain_of c.args.variable.value) (variables_of c.add.new.variables.items) (setting_of c.args.setting.now) c.args.tables.now.tables c.in_default-add.ensures.added)
    c.go_on.ensures

pub returns-clause-tables : goal.returns-clause-tables
returns-clause-tables c = λ b fs these.
    at_any c.go_on.result
    (let_held c.args.tid.now c.args.stacks.now b (body_of c.take_method-body.result) fs these c.take_method-body.ensures.top (setting_of c.args.setting.now) c.args.tables.now c.gain_value.new.tables
    c.args.variable.name (plain_of c.args.variable.value) (refs (plain_of c.args.variable.value)) refl c.in_default.ensures.gained)

pub returns-clause-lost : goal.returns-clause-lost
returns-clause-lost c =
    at_err c.go_on.result (lasting_all_gained c.take_method-body.result.number (refs (plain_of c.args.variable.value)) c.args.tables.now c.gain_value.new.tables c.in_default.ensures.gained)
