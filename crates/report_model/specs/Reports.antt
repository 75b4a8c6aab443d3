-- What is written of an end whose roots ran, and of both ends.
use Rattle.std.specs.Prelude.{List, ℕ, ◌++◌, codes}
use Rattle.std.specs.Fmt.{decimal}
use Rattle.std.specs.List.{flat_map}
use Rattle.plan_model.specs.Roots.{Run}
use Rattle.bridge_model.specs.Answers.{Counts}
use Rattle.world_model.specs.Moves.{Progress}

-- the lines of a root, each behind the name of its end
abbrev pub line_text : (end line : List ℕ) → List ℕ
line_text end line = end ++ (codes " " ++ (line ++ codes "\n"))

abbrev pub root_text : (end : List ℕ) → Run → List ℕ
root_text end r = flat_map (line_text end) r.lines

-- how many stubs, living proxies and objects an end has
unfoldable pub counts_text : (end : List ℕ) → Counts → List ℕ
counts_text end c = end ++ (codes " stubs " ++ (decimal c.stubs ++ (codes " proxies " ++ (decimal c.proxies ++ (codes " objects " ++ (decimal c.objects ++ codes "\n"))))))

-- the roots in order, and the counts behind them
unfoldable pub report : (end : List ℕ) → List Run → Counts → List ℕ
report end rs c = flat_map (root_text end) rs ++ counts_text end c

-- first that of A, and then that of B
abbrev pub both_reports : Progress → (a b : Counts) → List ℕ
both_reports p a b = report (codes "A") p.a a ++ report (codes "B") p.b b
