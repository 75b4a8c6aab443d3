use Rattle.std.proofs.Common.{◌≤◌, Ok, refl, ap, arith, length, map, option_map, string_bytes}
use Rattle.type_registry.specs.Functions.{lent_function, lent_param}
use Rattle.uno_values.specs.Values.{plain_of}
use Rattle.root_runs.proofs.TextLemmas.{text_done, text_ended, text_more}
use Rattle.root_runs.proofs.texts.push_outs.Goals as goal

pub loop-place-preserved : goal.loop-place-preserved
loop-place-preserved c =
    text_more {E = Unit} (λ v. map plain_of v.now) (Ok c.in_ok-left.left) c.in_ok-left.left c.args.registry.now (lent_function c.args.function).params c.loop-place.place (lent_param c.in-Some.param)
    (option_map lent_param c.param.result) (map plain_of c.loop-place.left.now) (string_bytes c.loop-place.text) (string_bytes c.push_next.new.text) _ refl c.param.ensures (ap (option_map lent_param) c.in-Some.is)
    c.in_ok-left.ensures c.loop-place.invariant

pub returns-in_default : goal.returns-in_default
returns-in_default c =
    text_ended c.args.registry.now (lent_function c.args.function).params c.loop-place.place (option_map lent_param c.param.result) (map plain_of c.loop-place.left.now) (string_bytes c.loop-place.text) _ c.param.ensures
    (ap (option_map lent_param) c.in_default.is) c.loop-place.invariant

pub returns : goal.returns
returns c =
    let past : length (lent_function c.args.function).params ≤ c.loop-place.place = omega (arith, c.loop-place-test.false, c.param_count-place-end.ensures) in
    text_done c.args.registry.now (lent_function c.args.function).params c.loop-place.place (map plain_of c.loop-place.left.now) (string_bytes c.loop-place.text) _ past c.loop-place.invariant
