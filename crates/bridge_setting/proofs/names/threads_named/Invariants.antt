use Rattle.std.specs.Prelude.{◌≡◌, length}
use Rattle.bridge_setting.specs.Naming.{AreNames}
use Rattle.bridge_setting.proofs.names.threads_named.Given as goal

abbrev pub invariant-loop-place : goal.invariant-loop-place
invariant-loop-place l = AreNames l.tag 1 l.tids.items × (length l.tids.items ≡ l.place)
