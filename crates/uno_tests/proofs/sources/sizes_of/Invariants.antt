use Rattle.std.specs.Prelude.{◌<◌, All}
use Rattle.uno_tests.proofs.sources.sizes_of.Given as goal

-- none so far is 0
abbrev pub invariant-loop-size : goal.invariant-loop-size
invariant-loop-size l = All (λ n. 0 < n) l.all.items
