use Rattle.std.proofs.Common.{◌≡◌, ◌++◌, drop, true, string_bytes}
use Rattle.literal_model.specs.Literals.{byte_tokens, spells}
use Rattle.value_text.proofs.print.push_numbers.Given as goal

abbrev pub invariant-loop-byte : goal.invariant-loop-byte
invariant-loop-byte l = string_bytes l.text ++ spells (byte_tokens l.is_first (drop l.byte-index l.bytes)) ≡ string_bytes l.fn.text ++ spells (byte_tokens true l.bytes)
