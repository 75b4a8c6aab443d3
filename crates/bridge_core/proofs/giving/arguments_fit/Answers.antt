use Rattle.std.specs.Prelude.{◌==◌}
use Rattle.std.proofs.Common.{sym, [], ◌∷◌, ◌∙◌, ap, map, arith}
use Rattle.std.proofs.lemmas.List.{length-map}
use Rattle.message_model.specs.Calls.{goes}
use Rattle.type_registry.specs.Functions.{lent_function}
use Rattle.uno_entities.specs.TypeNames.{kind_of}
use Rattle.uno_values.specs.Values.{plain_of}
use Rattle.urp_message.proofs.ParamLemmas as param
use Rattle.bridge_core.proofs.GivingLemmas.{goes_on, none_left, passed_over, too_few, unfit}
use Rattle.bridge_core.proofs.giving.arguments_fit.Goals as goal

pub loop-place-preserved-in_default : goal.loop-place-preserved-in_default
loop-place-preserved-in_default c =
    passed_over _ _ _ _ _ c.loop-place.invariant
    (param.at_place goes (lent_function c.args.function.now).params c.loop-place.place [] (omega (arith, c.loop-place-test.true, c.param_count-place-end.ensures)) c.in_default.ensures)

pub returns-in_default-split_first : goal.returns-in_default-split_first
returns-in_default-split_first c =
    too_few _ _ _ _ _ c.loop-place.invariant (kind_of c.in-Some.kind.now)
    (param.at_place goes (lent_function c.args.function.now).params c.loop-place.place (kind_of c.in-Some.kind.now ∷ [])
    (omega (arith, c.loop-place-test.true, c.param_count-place-end.ensures)) c.in-Some.ensures)
    (length-map c.loop-place.rest.now plain_of ∙ c.in_default-split_first.ensures.cases)

pub returns-then-not-fits : goal.returns-then-not-fits
returns-then-not-fits c =
    unfit _ _ _ _ _ c.loop-place.invariant (kind_of c.in-Some.kind.now)
    (param.at_place goes (lent_function c.args.function.now).params c.loop-place.place (kind_of c.in-Some.kind.now ∷ [])
    (omega (arith, c.loop-place-test.true, c.param_count-place-end.ensures)) c.in-Some.ensures)
    _ _ (ap (map plain_of) c.in-Some-split_first.ensures.cases.0) _ c.fits.ensures c.if-not-fits.true

pub loop-place-preserved : goal.loop-place-preserved
loop-place-preserved c =
    goes_on _ _ _ _ _ c.loop-place.invariant (kind_of c.in-Some.kind.now)
    (param.at_place goes (lent_function c.args.function.now).params c.loop-place.place (kind_of c.in-Some.kind.now ∷ [])
    (omega (arith, c.loop-place-test.true, c.param_count-place-end.ensures)) c.in-Some.ensures)
    _ _ (ap (map plain_of) c.in-Some-split_first.ensures.cases.0) _ c.fits.ensures c.if-not-fits.false

pub returns : goal.returns
returns c =
    none_left _ _ _ [] _ c.loop-place.invariant
    (param.none_left goes (lent_function c.args.function.now).params c.loop-place.place (omega (arith, c.loop-place-test.false, c.param_count-place-end.ensures)))
    _ (c.is_empty.ensures ∙ ap (λ n. n == 0) (sym (length-map c.loop-place.rest.now plain_of)))
