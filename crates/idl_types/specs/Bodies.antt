-- The steps of all numbers, as code has them.
use Rattle.std.specs.Prelude.{ℕ, zero, suc, List, [], ◌∷◌, ◌++◌, map, Option}
use Rattle.idl_model.specs.Trees.{Path, Declaration}
use Rattle.idl_names.specs.declared.declaration.Declared.{Declared}
use Rattle.idl_trees.specs.Trees.{declaration_of}
use Rattle.idl_types.specs.Steps.{body_at, step_if}
use Rattle.idl_values.specs.Told.{number_at}
use Rattle.idl_values.specs.declared.told.Told.{Told}
use Rattle.typedef_chains.specs.declared.step.Step.{Step}

-- what is told of a path, at its place
abbrev pub told_at : Told → Path → Option ℕ
told_at told path = number_at told.numbers path.place

abbrev pub bodies_of : List Declared → List Declaration
bodies_of all = map (λ d. declaration_of d.body.now) all

-- the steps of the numbers below this one
unfoldable pub steps_below : (Path → Option ℕ) → List Declaration → List (Option ℕ) → ℕ → List Step
steps_below told bodies table zero = []
steps_below told bodies table (suc n) = steps_below told bodies table n ++ step_if told n (body_at bodies table n) ∷ []
