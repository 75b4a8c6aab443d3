use Rattle.std.proofs.Common.{◌≡◌, arith, length}
use Rattle.uno_run.proofs.Roots.{all_openings, openings_more}
use Rattle.uno_run.proofs.serving.openings.Goals as goal

pub loop-place-preserved : goal.loop-place-preserved
loop-place-preserved c = λ threads within.
    openings_more _ threads _ _ within (c.loop-place.invariant threads (omega (arith, within))) c.in_ok-push_opening.ensures

pub returns : goal.returns
returns c = λ threads long.
    let all : length threads ≡ c.loop-place.place = omega (arith, long) in
    all_openings c.loop-place.place threads _ all (c.loop-place.invariant threads (omega (arith, all)))
