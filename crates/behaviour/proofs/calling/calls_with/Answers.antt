use Rattle.std.proofs.Common.{sym, map, option_map}
use Rattle.plan_model.specs.Asking.{calls}
use Rattle.plan_model.specs.Calling.{number_in}
use Rattle.plan_types.specs.Statements.{call_of}
use Rattle.uno_model.specs.Entities.{Field}
use Rattle.uno_values.specs.Values.{plain_of}
use Rattle.behaviour.proofs.EndingLemmas.{given_too}
use Rattle.behaviour.specs.Calling.{face_of, target_of}
use Rattle.behaviour.specs.Effects.{effect_of}
use Rattle.behaviour.proofs.calling.calls_with.Goals as goal

pub returns-in-Some : goal.returns-in-Some
returns-in-Some c =
    let n = number_in c.args.registry.now (face_of (target_of c.args.target)) (call_of c.args.call.now).callee in
    let step = rw c.deref.ensures.value at (c.in-Some.ensures c.args.registry.now n (calls (target_of c.args.target) n (map plain_of c.args.args.items) (option_map (λ (f : Field). f.name) (call_of c.args.call.now).to))) in
    given_too c.fails.result effect_of _ _ (sym step) c.fails.ensures

pub returns : goal.returns
returns c =
    let n = number_in c.args.registry.now (face_of (target_of c.args.target)) (call_of c.args.call.now).callee in
    let step = rw c.deref.ensures.value at (c.in_default.ensures c.args.registry.now n (calls (target_of c.args.target) n (map plain_of c.args.args.items) (option_map (λ (f : Field). f.name) (call_of c.args.call.now).to))) in
    given_too c.makes_call.result effect_of _ _ (sym step) c.makes_call.ensures
