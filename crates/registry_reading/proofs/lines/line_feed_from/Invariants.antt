use Rattle.std.proofs.Common.{◌≤◌, ◌-◌, length}
use Rattle.registry_reading.specs.Feeds.{NoFeedBefore}
use Rattle.registry_reading.proofs.lines.line_feed_from.Given as goal

abbrev pub invariant-loop-at : goal.invariant-loop-at
invariant-loop-at l = (l.at ≤ length l.bytes) × NoFeedBefore l.bytes l.at

abbrev pub decreases-loop-at : goal.decreases-loop-at
decreases-loop-at l = length l.bytes - l.at
