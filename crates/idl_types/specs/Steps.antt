-- Typedefs as steps from number to number of paths.
use Rattle.std.specs.Option.{option_and_then}
use Rattle.std.specs.Prelude.{ℕ, ◌+◌, min, List, get_or, slice_get, Option, None, Some, unwrap_or}
use Rattle.idl_model.specs.Trees.{Path, WrittenType, simple, named, sequence_of, Declaration, typedef}
use Rattle.typedef_chains.specs.declared.step.Step.{Step}

-- of more sequences than 64 there count 65, which is one too many
abbrev pub most : ℕ
most = 65

abbrev pub last_step : Step
last_step = record { adds = 0; next = None }

-- with one sequence more
abbrev pub more : Step → Step
more s = record { adds = min (s.adds + 1) most; next = s.next }

-- a typedef leads to what the name in its target stands for, and adds the sequences round it; what stands for nothing leads back to itself
unfoldable pub step_in : (Path → Option ℕ) → ℕ → WrittenType → Step
step_in told n (simple p s) = last_step
step_in told n (named path ts) = record { adds = 0; next = Some (unwrap_or (told path) n) }
step_in told n (sequence_of p t) = more (step_in told n t)

abbrev pub step_of : (Path → Option ℕ) → ℕ → Declaration → Step
step_of told n (typedef t) = step_in told n t
step_of told n _ = last_step

abbrev pub step_if : (Path → Option ℕ) → ℕ → Option Declaration → Step
step_if told n None = last_step
step_if told n (Some body) = step_of told n body

-- the declaration that a table has for a number
abbrev pub body_at : List Declaration → List (Option ℕ) → ℕ → Option Declaration
body_at bodies table n = option_and_then (slice_get bodies) (get_or table n None)
