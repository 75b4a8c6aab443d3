-- Lists that are linked through the frames of the stack, and what a walk with them finds.
use Rattle.std.specs.Prelude.{◌≡◌, ℕ, ◌+◌, List, [], ◌∷◌, ◌++◌, length, Option, Result, IfOk, option_map, slice_get}
use Rattle.uno_model.specs.Entities.{Entity}
use Rattle.type_registry.specs.Functions.{lent_function}
use Rattle.type_registry.specs.Own.{functions_by}
use Rattle.type_registry.specs.Tasks.{Doing, doing_of, done}
use Rattle.type_registry.specs.declared.function.FunctionRef.{FunctionRef}
use Rattle.type_registry.specs.declared.frames.Names as names
use Rattle.type_registry.specs.declared.frames.Todo as todo
use Rattle.type_registry.specs.declared.numbered.TooFar.{TooFar}

abbrev pub names_in : names.Names → List (List ℕ)
names_in names.Nothing = []
names_in (names.More' name p before) = names_in before ++ name.now ∷ []

abbrev pub tasks_in : todo.Todo → List Doing
tasks_in todo.Nothing = []
tasks_in (todo.More' task p before) = tasks_in before ++ doing_of task ∷ []

-- what is found is the function at the number behind those of what was met, when all tasks are done
abbrev pub Walked : List Entity → List Doing → List (List ℕ) → ℕ → Result (Option FunctionRef) TooFar → Type 0
Walked reg tasks met number result =
    IfOk result (λ found. option_map lent_function found ≡ slice_get (functions_by reg (done reg tasks met)) (length (functions_by reg met) + number))
