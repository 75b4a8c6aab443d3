use Rattle.std.proofs.Common.{map, string_bytes}
use Rattle.plan_types.specs.Statements.{callee_of}
use Rattle.uno_values.specs.Values.{plain_of}
use Rattle.root_runs.proofs.TextLemmas.{none_is_called, outs_of_called}
use Rattle.root_runs.proofs.texts.push_called.Goals as goal

pub returns-in-Some : goal.returns-in-Some
returns-in-Some c =
    outs_of_called c.args.registry.now c.as_str-owner.result.now c.args.call.now.callee.owner (callee_of c.args.call.now.callee) c.in_ok-number.number c.in-Ok.number c.function_numbered.result c.in-Some.function
    c.push_outs.result (map plain_of c.args.outs.now) (string_bytes c.args.text.now) (string_bytes c.push_outs.new.text) c.as_str-owner.ensures c.in_ok-number.ensures c.in-Ok.ensures.1 c.function_numbered.ensures c.in-Some.is
    c.push_outs.ensures

pub returns-in-None : goal.returns-in-None
returns-in-None c =
    none_is_called c.args.registry.now c.as_str-owner.result.now c.args.call.now.callee.owner (callee_of c.args.call.now.callee) c.in_ok-number.number c.in-Ok.number c.function_numbered.result
    (map plain_of c.args.outs.now) (string_bytes c.args.text.now) c.as_str-owner.ensures c.in_ok-number.ensures c.in-Ok.ensures.1 c.function_numbered.ensures c.in-None.is
