-- What is asked of a request and of a reply beside its names.
use Rattle.std.specs.Prelude.{◌≡◌, ℕ, ◌<◌, true, List, Option, None, Some}
use Rattle.message_model.specs.Calls.{argument_kinds, may_raise}
use Rattle.message_model.specs.Messages as plain
use Rattle.message_model.specs.Sayable.{IsCalled, Fill, AnswerFits}
use Rattle.type_registry.specs.Functions.{lent_function}
use Rattle.type_registry.specs.declared.function.FunctionRef.{FunctionRef}
use Rattle.uno_model.specs.Entities.{Entity}
use Rattle.uno_model.specs.Fits.{Fits}
use Rattle.uno_model.specs.Functions as called
use Rattle.uno_model.specs.Kinds.{Kind}
use Rattle.uno_model.specs.Types.{is_type}
use Rattle.uno_model.specs.Values.{Plain, depth}

-- a function that is called like others, and arguments that fit it
abbrev pub IsCalledWith : List Entity → List ℕ → ℕ → List Plain → Type 0
IsCalledWith reg face number args = (f : called.Function) × IsCalled reg face number f × Fill reg args (argument_kinds f)

-- a function that is called like others, and an answer to it
abbrev pub IsAnsweredWith : List Entity → List ℕ → ℕ → plain.Answer → Type 0
IsAnsweredWith reg face number answer = (f : called.Function) × IsCalled reg face number f × AnswerFits reg f answer

-- the function that is called like others is found, or there is none
abbrev pub FindsCalled : List Entity → List ℕ → ℕ → Option FunctionRef → Type 0
FindsCalled reg face number None = (f : called.Function) → IsCalled reg face number f → ⊥
FindsCalled reg face number (Some f) = IsCalled reg face number (lent_function f)

-- an exception that the function may raise, of a type of the registry, nested so deep that an any may hold it
abbrev pub ExceptionFits : List Entity → called.Function → Kind → Plain → Type 0
ExceptionFits reg f k v = (may_raise reg f k ≡ true) × (is_type reg k ≡ true) × Fits reg v k × (depth v < 64)
