use Rattle.std.proofs.Common.{◌≡◌, ◌++◌, ◌∷◌, drop}
use Rattle.std.specs.List.{flat_map}
use Rattle.reg_text.specs.Words.{words_at}
use Rattle.reg_text.proofs.properties.push_behind_commas.Given as goal

abbrev pub invariant-loop-word : goal.invariant-loop-word
invariant-loop-word l = l.text.items ++ flat_map (λ w. 44 ∷ w) (words_at (drop l.word-index l.words)) ≡ l.fn.text.items ++ flat_map (λ w. 44 ∷ w) (words_at l.words)
