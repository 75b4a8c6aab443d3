use Rattle.std.proofs.Common.{take}
use Rattle.idl_values.specs.Keys.{AreKeys}
use Rattle.idl_values.proofs.keyed.keys_of.Given as goal

abbrev pub invariant-loop-name : goal.invariant-loop-name
invariant-loop-name l = AreKeys (take l.name-index l.names) l.keys.items
