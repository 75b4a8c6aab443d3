use Rattle.std.specs.Prelude.{◌≡◌, ◌++◌, map, take, string_bytes}
use Rattle.command_words.proofs.parts.Parts.push_all.Given as goal

-- the words so far stand behind the others
abbrev pub invariant-loop-word : goal.invariant-loop-word
invariant-loop-word l = l.self ≡ record { plain = l.fn.self.plain ++ map string_bytes (take l.word-index l.words); choices = l.fn.self.choices }
