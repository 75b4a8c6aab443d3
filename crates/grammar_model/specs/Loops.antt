-- How far a loop has come that reads one after the other.
use Rattle.std.specs.Prelude.{◌≡◌, ℕ, ◌≤◌, Bool, List, ◌++◌, length, Option, Result, Ok}
use Rattle.grammar_model.specs.declared.fault.Fault.{Fault}
use Rattle.grammar_model.specs.Readings.{Reads, ◌>>=◌, many_at}

-- a list that is read, with those before it in front
abbrev pub with_front : {T X : Type 0} → List X → Result (List X × List T) Fault → Result (List X × List T) Fault
with_front front read = read >>= λ z. Ok (front ++ z.0, z.1)

-- these were read, and what is left goes on to the whole
pub record SoFar {T X : Type 0} (c : Option T → Bool) (r : Reads T X) (total : Result (List X × List T) Fault) (front : List X) (rest : List T) : Type 0 where
  pub fuel : ℕ
  pub enough : length rest ≤ fuel
  pub same : with_front front (many_at fuel c r rest) ≡ total
