use Rattle.std.proofs.Common.{arith, eq-eqb}
use Rattle.registry_reading.proofs.LineLemmas.{feed_found, no_feed_found}
use Rattle.registry_reading.proofs.lines.line_feed_from.Goals as goal

pub returns-then-bytes-at-eq10 : goal.returns-then-bytes-at-eq10
returns-then-bytes-at-eq10 c = feed_found c.args.bytes.now c.loop-at.at c.loop-at-test.true c.loop-at.invariant.1 (eq-eqb _ _ c.if-bytes-at-eq10.true)

pub returns : goal.returns
returns c = no_feed_found c.args.bytes.now c.loop-at.at (omega (arith, c.loop-at-test.false)) c.loop-at.invariant.1
