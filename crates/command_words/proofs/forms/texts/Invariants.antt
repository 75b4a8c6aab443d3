use Rattle.std.specs.Prelude.{◌≡◌, map, take, string_bytes}
use Rattle.command_words.proofs.forms.texts.Given as goal

-- the texts so far
abbrev pub invariant-loop-word : goal.invariant-loop-word
invariant-loop-word l = map string_bytes l.texts.items ≡ map (λ s. s.now) (take l.word-index l.words)
