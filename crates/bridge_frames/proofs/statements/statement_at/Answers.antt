use Rattle.std.proofs.Common.{None, Some, option_map, ap, ◌∙◌}
use Rattle.type_registry.specs.Functions.{lent_function}
use Rattle.plan_types.specs.Frames.{body_of}
use Rattle.plan_types.specs.Plans.{method_of}
use Rattle.plan_types.specs.Statements.{statement_of}
use Rattle.bridge_setting.specs.Settings.{setting_of}
use Rattle.bridge_frames.proofs.GoingLemmas.{no_function, no_object, in_method}
use Rattle.bridge_frames.proofs.statements.statement_at.Goals as goal

pub returns-in_err-function : goal.returns-in_err-function
returns-in_err-function c =
    ap (option_map (λ s. statement_of s.now)) c.from_residual.ensures
    ∙ no_function (setting_of c.args.setting.now) c.args.tables.now.tables.objects (body_of c.args.body.now) c.as_str.result.now c.as_str.ensures c.in_err-function.ensures

pub returns-in_err-behaviour : goal.returns-in_err-behaviour
returns-in_err-behaviour c =
    ap (option_map (λ s. statement_of s.now)) c.from_residual-in_err-behaviour.ensures
    ∙ no_object (setting_of c.args.setting.now) c.args.tables.now.tables.objects (body_of c.args.body.now) c.as_str.result.now c.as_str.ensures (lent_function c.in_ok-function.function) c.in_ok-function.ensures
    c.in_err-behaviour.ensures.none

pub returns-in_err-method : goal.returns-in_err-method
returns-in_err-method c =
    ap (option_map (λ s. statement_of s.now)) c.from_residual-in_err-method.ensures
    ∙ in_method (setting_of c.args.setting.now) c.args.tables.now.tables.objects (body_of c.args.body.now) c.as_str.result.now c.as_str.ensures (lent_function c.in_ok-function.function) c.in_ok-behaviour.behaviour None
    c.in_ok-function.ensures c.in_ok-behaviour.ensures.found c.in_err-method.ensures

pub returns : goal.returns
returns c =
    c.statement_in.ensures
    ∙ in_method (setting_of c.args.setting.now) c.args.tables.now.tables.objects (body_of c.args.body.now) c.as_str.result.now c.as_str.ensures (lent_function c.in_ok-function.function) c.in_ok-behaviour.behaviour
    (Some (method_of c.in_ok-method.method.now)) c.in_ok-function.ensures c.in_ok-behaviour.ensures.found c.in_ok-method.ensures
