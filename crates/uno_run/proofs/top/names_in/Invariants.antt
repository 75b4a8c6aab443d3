use Rattle.std.specs.Prelude.{◌≡◌, map, take, string_bytes}
use Rattle.uno_run.proofs.top.names_in.Given as goal

abbrev pub invariant-loop-word : goal.invariant-loop-word
invariant-loop-word l = map (λ s. s.now) l.names.items ≡ map string_bytes (take l.word-index l.words)
