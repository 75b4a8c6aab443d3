use Rattle.std.proofs.Common.{map, option_map}
use Rattle.frame_variables.specs.Taking.{refs_in}
use Rattle.plan_types.specs.Frames.{body_of, variables_of}
use Rattle.plan_types.specs.Statements.{statement_of}
use Rattle.uno_values.specs.Values.{plain_of}
use Rattle.bridge_setting.specs.Settings.{setting_of}
use Rattle.bridge_frames.proofs.GoingLemmas.{body_goes_on, refs_gone}
use Rattle.bridge_frames.proofs.going_on.take_in.Goals as goal

pub returns-clause-body : goal.returns-clause-body
returns-clause-body c =
    body_goes_on (setting_of c.args.setting.now) c.args.tables.now.tables.objects (body_of c.args.body.now) (option_map (λ s. statement_of s.now) c.statement_at-statement.result) (plain_of c.args.value)
    (map plain_of c.args.outs.items) (variables_of c.take_by.new.variables.items) (refs_in c.in_ok-gone.gone.items) c.statement_at-statement.ensures c.in_ok-gone.ensures

pub returns-clause-gone : goal.returns-clause-gone
returns-clause-gone c =
    refs_gone (setting_of c.args.setting.now) c.args.tables.now.tables.objects (body_of c.args.body.now) (option_map (λ s. statement_of s.now) c.statement_at-statement.result) (plain_of c.args.value)
    (map plain_of c.args.outs.items) (variables_of c.take_by.new.variables.items) (refs_in c.in_ok-gone.gone.items) c.statement_at-statement.ensures c.in_ok-gone.ensures
