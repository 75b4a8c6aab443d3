use Rattle.std.specs.Prelude.{◌==◌}
use Rattle.std.proofs.Common.{sym, [], ◌∷◌, ◌∙◌, ap, map, arith}
use Rattle.std.proofs.lemmas.List.{nil_from_length, length-map}
use Rattle.type_registry.specs.Functions.{lent_function}
use Rattle.uno_entities.specs.TypeNames.{kind_of}
use Rattle.uno_values.specs.Values.{plain_of}
use Rattle.urp_message.specs.Params.{carries}
use Rattle.urp_message.proofs.ParamLemmas.{at_place, none_left}
use Rattle.urp_message.proofs.SayingLemmas as saying
use Rattle.urp_message.proofs.saying.values_fit.Goals as goal

pub loop-place-preserved-in_default : goal.loop-place-preserved-in_default
loop-place-preserved-in_default c =
    saying.passed_over _ _ _ _ _ c.loop-place.invariant
    (at_place (carries c.args.phase) (lent_function c.args.function.now).params c.loop-place.place [] (omega (arith, c.loop-place-test.true, c.param_count-place-end.ensures)) c.in_default.ensures)

pub returns-in_default-split_first : goal.returns-in_default-split_first
returns-in_default-split_first c =
    saying.lacks_one _ _ _ _ _ c.loop-place.invariant (kind_of c.in-Some.kind.now)
    (at_place (carries c.args.phase) (lent_function c.args.function.now).params c.loop-place.place (kind_of c.in-Some.kind.now ∷ [])
    (omega (arith, c.loop-place-test.true, c.param_count-place-end.ensures)) c.in-Some.ensures)
    (ap (map plain_of) (nil_from_length _ c.in_default-split_first.ensures.cases))

pub returns-then-not-fits_within : goal.returns-then-not-fits_within
returns-then-not-fits_within c =
    saying.stops _ _ _ _ _ c.loop-place.invariant (kind_of c.in-Some.kind.now)
    (at_place (carries c.args.phase) (lent_function c.args.function.now).params c.loop-place.place (kind_of c.in-Some.kind.now ∷ [])
    (omega (arith, c.loop-place-test.true, c.param_count-place-end.ensures)) c.in-Some.ensures)
    _ _ (ap (map plain_of) c.in-Some-split_first.ensures.cases.0) _ c.fits_within.ensures c.if-not-fits_within.true

pub loop-place-preserved : goal.loop-place-preserved
loop-place-preserved c =
    saying.goes_on _ _ _ _ _ c.loop-place.invariant (kind_of c.in-Some.kind.now)
    (at_place (carries c.args.phase) (lent_function c.args.function.now).params c.loop-place.place (kind_of c.in-Some.kind.now ∷ [])
    (omega (arith, c.loop-place-test.true, c.param_count-place-end.ensures)) c.in-Some.ensures)
    _ _ (ap (map plain_of) c.in-Some-split_first.ensures.cases.0) _ c.fits_within.ensures c.if-not-fits_within.false

pub returns : goal.returns
returns c =
    saying.none_left _ _ _ [] _ c.loop-place.invariant
    (none_left (carries c.args.phase) (lent_function c.args.function.now).params c.loop-place.place (omega (arith, c.loop-place-test.false, c.param_count-place-end.ensures)))
    _ (c.is_empty.ensures ∙ ap (λ n. n == 0) (sym (length-map c.loop-place.rest.now plain_of)))
