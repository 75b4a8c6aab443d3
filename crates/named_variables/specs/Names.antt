-- The names of variables.
use Rattle.std.specs.Prelude.{ℕ, List, map}
use Rattle.plan_types.specs.declared.frame.Variable.{Variable}

-- in the order of the variables
abbrev pub names_of : List Variable → List (List ℕ)
names_of xs = map (λ x. x.name) xs
