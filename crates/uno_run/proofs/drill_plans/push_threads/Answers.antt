use Rattle.std.proofs.Common.{◌≡◌, ◌++◌, arith, string_bytes, subst}
use Rattle.std.specs.List.{flat_map, range_with_len}
use Rattle.report_model.specs.Drills.{thread_text}
use Rattle.uno_run.proofs.Ranges.{put_more}
use Rattle.uno_run.proofs.drill_plans.push_threads.Goals as goal

pub loop-thread-preserved : goal.loop-thread-preserved
loop-thread-preserved c = (
  put_more (thread_text c.args.rounds c.args.seed) c.loop-thread.thread (string_bytes c.args.text.now) (string_bytes c.loop-thread.text) _ c.loop-thread.invariant.0 c.in_ok-push_thread.ensures,
  omega arith,
)

pub returns : goal.returns
returns c =
    let all : c.loop-thread.thread ≡ 4 = omega (arith, c.loop-thread.invariant.1) in
    subst (λ n. string_bytes c.loop-thread.text ≡ string_bytes c.args.text.now ++ flat_map (thread_text c.args.rounds c.args.seed) (range_with_len 0 n)) all c.loop-thread.invariant.0
