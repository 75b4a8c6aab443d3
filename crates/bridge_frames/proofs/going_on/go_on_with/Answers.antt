use Rattle.std.proofs.Common.{map, ap, ◌∙◌}
use Rattle.bridge_model.specs.References.{refs_of_values}
use Rattle.bridge_setting.specs.Settings.{setting_of}
use Rattle.frame_variables.specs.Taking.{refs_in}
use Rattle.plan_model.specs.Frames.{base}
use Rattle.plan_types.specs.Frames.{body_of}
use Rattle.uno_values.specs.Values.{plain_of}
use Rattle.bridge_frames.proofs.GoingLemmas.{top_stays, refs_same, went_on_stacks, went_on_tables}
use Rattle.bridge_frames.proofs.going_on.go_on_with.Goals as goal

pub put_method-requires : goal.put_method-requires
put_method-requires c = top_stays c.args.tid.now (base 0) c.args.stacks.now c.take_method-body.new.stacks c.requires.method c.take_method-body.ensures.taken

pub returns-clause-stacks : goal.returns-clause-stacks
returns-clause-stacks c = λ b fs at.
    went_on_stacks c.args.tid.now c.args.stacks.now b (body_of c.take_method-body.result) fs at c.take_method-body.ensures.top (setting_of c.args.setting.now) c.args.tables.now.tables (plain_of c.args.value)
    (map plain_of c.args.outs.items) (body_of c.take_in.new.body) c.take_method-body.new.stacks c.put_method.new.stacks c.in-Ok.ensures.body c.take_method-body.ensures.taken c.put_method.ensures

pub returns-clause-tables : goal.returns-clause-tables
returns-clause-tables c = λ b fs at.
    went_on_tables c.args.tid.now c.args.stacks.now b (body_of c.take_method-body.result) fs at c.take_method-body.ensures.top (setting_of c.args.setting.now) (plain_of c.args.value) (map plain_of c.args.outs.items)
    (refs_of_values (map plain_of c.deref.result.now)) c.args.tables.now c.let_values_go.new.self (refs_same c.deref.result.now ∙ ap refs_in c.deref.ensures.value ∙ c.in-Ok.ensures.gone)
    c.let_values_go.ensures
