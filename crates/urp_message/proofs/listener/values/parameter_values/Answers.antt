use Rattle.std.proofs.Common.{[], ◌∷◌, ◌∙◌, ap, map, arith}
use Rattle.std.proofs.lemmas.List.{map-append}
use Rattle.type_registry.specs.Functions.{lent_function}
use Rattle.uno_entities.specs.TypeNames.{kind_of}
use Rattle.uno_values.specs.Values.{plain_of}
use Rattle.urp_message.specs.Params.{carries}
use Rattle.urp_message.proofs.ParamLemmas.{at_place, none_left}
use Rattle.urp_message.proofs.ValueLemmas.{handed_over, passed_over, one_more, fails, all_read}
use Rattle.urp_message.proofs.listener.values.parameter_values.Goals as goal

pub loop-place-preserved-in_default : goal.loop-place-preserved-in_default
loop-place-preserved-in_default c =
    passed_over _ _ _ _ _ _ _ c.loop-place.invariant
    (at_place (carries c.args.phase) (lent_function c.args.function.now).params c.loop-place.place [] (omega (arith, c.loop-place-test.true, c.param_count-place-end.ensures)) c.in_default.ensures)

pub returns-in_err-value : goal.returns-in_err-value
returns-in_err-value c =
    handed_over _ c.from_residual.result c.in_err-value.field-0.0 _ c.from_residual.ensures
    (fails _ _ _ _ _ _ _ c.loop-place.invariant (kind_of c.in-Some.kind.now)
    (at_place (carries c.args.phase) (lent_function c.args.function.now).params c.loop-place.place (kind_of c.in-Some.kind.now ∷ [])
    (omega (arith, c.loop-place-test.true, c.param_count-place-end.ensures)) c.in-Some.ensures) c.in_err-value.field-0.0 c.in_err-value.ensures)

pub loop-place-preserved : goal.loop-place-preserved
loop-place-preserved c =
    one_more _ _ _ _ _ _ _ c.loop-place.invariant (kind_of c.in-Some.kind.now)
    (at_place (carries c.args.phase) (lent_function c.args.function.now).params c.loop-place.place (kind_of c.in-Some.kind.now ∷ [])
    (omega (arith, c.loop-place-test.true, c.param_count-place-end.ensures)) c.in-Some.ensures) _ _ _ _ c.in_ok-value.ensures
    (ap (map plain_of) c.in_ok-push.ensures.items ∙ map-append plain_of c.loop-place.values.items _)

pub returns : goal.returns
returns c =
    all_read _ _ [] _ _ _ _ c.loop-place.invariant
    (none_left (carries c.args.phase) (lent_function c.args.function.now).params c.loop-place.place (omega (arith, c.loop-place-test.false, c.param_count-place-end.ensures)))
