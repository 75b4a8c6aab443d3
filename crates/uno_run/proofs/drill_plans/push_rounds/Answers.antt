use Rattle.std.proofs.Common.{◌≡◌, ◌++◌, arith, string_bytes, subst}
use Rattle.std.specs.List.{flat_map, range_with_len}
use Rattle.report_model.specs.Drills.{round_in}
use Rattle.uno_run.proofs.Ranges.{put_more}
use Rattle.uno_run.proofs.drill_plans.push_rounds.Goals as goal

pub loop-round-preserved : goal.loop-round-preserved
loop-round-preserved c = (
  put_more (round_in c.args.seed c.args.thread) c.loop-round.round (string_bytes c.args.text.now) (string_bytes c.loop-round.text) _ c.loop-round.invariant.0 c.in_ok-push_if_own.ensures,
  omega arith,
)

pub returns : goal.returns
returns c =
    let all : c.loop-round.round ≡ c.args.rounds = omega (arith, c.loop-round.invariant.1) in
    subst (λ n. string_bytes c.loop-round.text ≡ string_bytes c.args.text.now ++ flat_map (round_in c.args.seed c.args.thread) (range_with_len 0 n)) all c.loop-round.invariant.0
