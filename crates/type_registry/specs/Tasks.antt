-- What a walk over bases has left to do.
use Rattle.std.specs.Prelude.{ℕ, zero, suc, ◌+◌, List, [], ◌∷◌, ◌++◌, map, reverse}
use Rattle.uno_model.specs.Entities.{Entity}
use Rattle.uno_model.specs.Functions.{met_within}
use Rattle.uno_model.specs.Registry.{stands_on}
use Rattle.type_registry.specs.declared.walk.Task.{Task}
use Rattle.type_registry.specs.declared.walk.Task.TheVariants as task

-- an interface to bring in with its bases, over so many levels, or itself alone
pub data Doing : Type 0 where
  visit : List ℕ → ℕ → Doing
  leave : List ℕ → Doing

abbrev pub doing_of : Task → Doing
doing_of (task.Visit name levels) = visit name.now levels
doing_of (task.Leave name) = leave name.now

abbrev pub tasks_of : List Task → List Doing
tasks_of = map doing_of

-- what is met when one of them is done, and all, the last one first
abbrev pub do_one : List Entity → Doing → List (List ℕ) → List (List ℕ)
do_one reg (visit name levels) met = met_within levels reg met name
do_one reg (leave name) met = met ++ name ∷ []

unfoldable pub done : List Entity → List Doing → List (List ℕ) → List (List ℕ)
done reg [] met = met
done reg (t ∷ ts) met = do_one reg t (done reg ts met)

-- each name to be visited, the first one last
abbrev pub visits : ℕ → List (List ℕ) → List Doing
visits levels names = reverse (map (λ name. visit name levels) names)

-- how many steps a task takes at most, and one more for each base that is made a task
unfoldable pub sum_with : (List ℕ → ℕ) → List (List ℕ) → ℕ
sum_with cost [] = 0
sum_with cost (name ∷ names) = 1 + cost name + sum_with cost names

unfoldable pub cost_within : ℕ → List Entity → List ℕ → ℕ
cost_within zero reg name = 1
cost_within (suc levels) reg name = 2 + sum_with (cost_within levels reg) (stands_on reg name)

abbrev pub cost : List Entity → Doing → ℕ
cost reg (visit name levels) = cost_within levels reg name
cost reg (leave name) = 1

unfoldable pub costs : List Entity → List Doing → ℕ
costs reg [] = 0
costs reg (t ∷ ts) = cost reg t + costs reg ts
