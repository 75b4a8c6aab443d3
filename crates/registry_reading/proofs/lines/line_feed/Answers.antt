use Rattle.std.proofs.Common.{◌==◌, ◌+◌, ◌≤◌, length, arith}
use Rattle.std.proofs.lemmas.Simd.{run_in_chunk_fails, run_in_chunk_stops}
use Rattle.registry_reading.proofs.LineLemmas.{feed_found, passed, run_passed}
use Rattle.registry_reading.proofs.lines.line_feed.Goals as goal

pub returns-then-run-lt-RUN : goal.returns-then-run-lt-RUN
returns-then-run-lt-RUN c =
    let bytes = c.args.bytes.now in
    let at = c.loop-at.at in
    let counted = c.run_without_feed-run.ensures in
    let short = c.if-run-lt-RUN.true in
    let room : at + 16 ≤ length bytes = omega (arith, c.loop-at-test.true, c.loop-at.invariant.0) in
    feed_found bytes _ (omega arith) (run_passed bytes at _ c.loop-at.invariant.1 (run_in_chunk_fails (λ b. b == 10) bytes at 16 _ 0 room counted))
    (run_in_chunk_stops (λ b. b == 10) bytes at 16 _ 0 room counted short)

pub loop-at-preserved : goal.loop-at-preserved
loop-at-preserved c =
    let bytes = c.args.bytes.now in
    let at = c.loop-at.at in
    let room : at + 16 ≤ length bytes = omega (arith, c.loop-at-test.true, c.loop-at.invariant.0) in
    (room, run_passed bytes at 16 c.loop-at.invariant.1 (passed bytes at _ room c.run_without_feed-run.ensures c.if-run-lt-RUN.false))
