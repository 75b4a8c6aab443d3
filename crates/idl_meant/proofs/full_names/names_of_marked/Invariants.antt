use Rattle.std.proofs.Common.{◌≡◌, length}
use Rattle.idl_meant.specs.FullNames.{AreFullNames}
use Rattle.idl_meant.proofs.full_names.names_of_marked.Given as goal

abbrev pub invariant-loop-number : goal.invariant-loop-number
invariant-loop-number l = AreFullNames l.paths l.names.items × (length l.names.items ≡ l.number)
