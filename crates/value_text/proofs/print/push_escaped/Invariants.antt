use Rattle.std.proofs.Common.{◌≡◌, ◌++◌, string_bytes}
use Rattle.std.specs.Str.Iter.{chars_rest}
use Rattle.std.specs.List.{flat_map}
use Rattle.literal_model.specs.Literals.{escaped}
use Rattle.value_text.proofs.print.push_escaped.Given as goal

abbrev pub invariant-loop-character : goal.invariant-loop-character
invariant-loop-character l = string_bytes l.text ++ flat_map escaped (chars_rest l.character-iterator) ≡ string_bytes l.fn.text ++ flat_map escaped l.string
