use Rattle.std.proofs.Common.{◌≡◌, ◌<◌, ◌≤◌, ◌-◌, ◌∙◌, suc, arith, length, sym}
use Rattle.bridge_endpoint.specs.Journals.{setting_at, side_at}
use Rattle.bridge_world.proofs.SteppingLemmas.{is_behind, is_past, is_this, none_found}
use Rattle.bridge_world.proofs.roots.moving_at.Goals as goal

pub loop-place-preserved-then-not-moves : goal.loop-place-preserved-then-not-moves
loop-place-preserved-then-not-moves c =
    let within : c.loop-place.place < length c.args.runs.now = omega (arith, c.loop-place-test.true) in
    is_past (setting_at c.args.end.now) (side_at c.args.end.now) c.args.runs.now c.loop-place.place c.index-runs-place.result within c.index-runs-place.is c.loop-place.left _ (sym c.moves.ensures ∙ c.if-not-moves.true) c.loop-place.invariant

pub returns-then-left-eq0 : goal.returns-then-left-eq0
returns-then-left-eq0 c =
    let within : c.loop-place.place < length c.args.runs.now = omega (arith, c.loop-place-test.true) in
    is_this (setting_at c.args.end.now) (side_at c.args.end.now) c.args.runs.now c.loop-place.place c.index-runs-place.result within c.index-runs-place.is c.loop-place.left _ (sym c.moves.ensures ∙ c.if-not-moves.false) c.if-left-eq0.true c.loop-place.invariant

pub loop-place-preserved : goal.loop-place-preserved
loop-place-preserved c =
    let within : c.loop-place.place < length c.args.runs.now = omega (arith, c.loop-place-test.true) in
    let some = c.if-left-eq0.false in
    let one : c.loop-place.left ≡ suc (c.loop-place.left - 1) = omega (arith, some) in
    is_behind (setting_at c.args.end.now) (side_at c.args.end.now) c.args.runs.now c.loop-place.place c.index-runs-place.result within c.index-runs-place.is c.loop-place.left (c.loop-place.left - 1) _ (sym c.moves.ensures ∙ c.if-not-moves.false) one c.loop-place.invariant

pub returns : goal.returns
returns c =
    let past : length c.args.runs.now ≤ c.loop-place.place = omega (arith, c.loop-place-test.false) in
    none_found (setting_at c.args.end.now) (side_at c.args.end.now) c.args.runs.now c.loop-place.place past c.loop-place.left _ c.loop-place.invariant
