use Rattle.std.specs.Prelude.{◌≡◌, map, string_bytes, length, None}
use Rattle.command_words.specs.Parts.{apart, onto}
use Rattle.command_words.proofs.parts.parts_of.Given as goal

-- what was taken apart, with what is left, is the whole
abbrev pub invariant-loop-rest : goal.invariant-loop-rest
invariant-loop-rest l = onto l.parts l.waiting (map string_bytes l.rest) ≡ apart None (map string_bytes l.words)

abbrev pub decreases-loop-rest : goal.decreases-loop-rest
decreases-loop-rest l = length l.rest
