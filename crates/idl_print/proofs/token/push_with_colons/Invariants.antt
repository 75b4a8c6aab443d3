use Rattle.std.proofs.Common.{◌≡◌, ◌++◌, drop}
use Rattle.std.specs.List.{flat_map}
use Rattle.registry_text_model.specs.Canonical.{colons}
use Rattle.idl_print.proofs.token.push_with_colons.Given as goal

abbrev pub invariant-loop-byte : goal.invariant-loop-byte
invariant-loop-byte l = l.text.items ++ flat_map colons (drop l.byte-index l.bytes) ≡ l.fn.text.items ++ flat_map colons l.bytes
