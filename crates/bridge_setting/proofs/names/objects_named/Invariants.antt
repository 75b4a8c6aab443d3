use Rattle.std.specs.Prelude.{◌≡◌, length}
use Rattle.bridge_setting.specs.Naming.{AreNames}
use Rattle.bridge_setting.proofs.names.objects_named.Given as goal

abbrev pub invariant-loop-number : goal.invariant-loop-number
invariant-loop-number l = AreNames l.tag 0 l.oids.items × (length l.oids.items ≡ l.number)
