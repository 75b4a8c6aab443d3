use Rattle.std.specs.Prelude.{◌≡◌, map, take, vec_items}
use Rattle.uno_run.proofs.compile.slices.Given as goal

abbrev pub invariant-loop-text : goal.invariant-loop-text
invariant-loop-text l = map (λ text. text.now) l.files.items ≡ map vec_items (take l.text-index l.texts)
