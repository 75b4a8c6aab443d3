-- What was read of a text, line by line.
use Rattle.std.specs.Prelude.{ℕ, Bool, true, not, ◌||◌, List, [], ◌∷◌, ◌++◌, Option, None, Some, Result, Ok, Err, codes, if◌then◌else◌}
use Rattle.std.specs.Cmp.Lexicographic.{slice_cmp}
use Rattle.std.specs.Ordering.{nat_cmp, is_lt}
use Rattle.std.specs.Str.{bytes_eq}
use Rattle.uno_model.specs.Entities.{Body, Entity}
use Rattle.registry_reading_model.specs.Bodies.{body_line}
use Rattle.registry_reading_model.specs.Changes.{Change}
use Rattle.registry_reading_model.specs.Headers.{header_of}

-- before the first line; between entities, those read so far; within one, behind those before it
pub data State : Type 0 where
  unread : State
  between : List Entity → State
  within : List Entity → Entity → State

-- the line is none that may stand there, or its name is not above that of the entity before
pub data Wrong : Type 0 where
  bad : Wrong
  out_of_order : Wrong

-- the name is above that of the last of these entities
unfoldable pub is_above : List Entity → List ℕ → Bool
is_above [] name = true
is_above (e ∷ []) name = is_lt (slice_cmp nat_cmp e.name name)
is_above (e ∷ (d ∷ ds)) name = is_above (d ∷ ds) name

-- the same, asked of the last name alone
unfoldable pub last_name : List Entity → Option (List ℕ)
last_name [] = None
last_name (e ∷ []) = Some e.name
last_name (e ∷ (d ∷ ds)) = last_name (d ∷ ds)

abbrev pub is_above_name : Option (List ℕ) → List ℕ → Bool
is_above_name None name = true
is_above_name (Some last) name = is_lt (slice_cmp nat_cmp last name)

-- a header, whose name is asked to be above the last where that is wanted
abbrev pub begun : Bool → List Entity → Option Entity → Result State Wrong
begun ordered done None = Err bad
begun ordered done (Some e) = if not ordered || is_above done e.name then Ok (within done e) else Err out_of_order

abbrev pub with_body : Entity → Body → Entity
with_body e body = record { name = e.name; published = e.published; body = body }

abbrev pub gone_on : List Entity → Entity → Option Body → Result State Wrong
gone_on done e None = Err bad
gone_on done e (Some body) = Ok (within done (with_body e body))

-- one line more
unfoldable pub step : Bool → Change → State → List ℕ → Result State Wrong
step ordered c unread line = if bytes_eq line (codes "unoreg 1") then Ok (between []) else Err bad
step ordered c (between done) line = begun ordered done (header_of c line)
step ordered c (within done e) line = if bytes_eq line (codes "end") then Ok (between (done ++ e ∷ [])) else gone_on done e (body_line c e.body line)

-- line after line
abbrev pub on_read : Result State Wrong → (State → Result State Wrong) → Result State Wrong
on_read (Err w) f = Err w
on_read (Ok st) f = f st

unfoldable pub run : Bool → Change → State → List (List ℕ) → Result State Wrong
run ordered c st [] = Ok st
run ordered c st (line ∷ lines) = on_read (step ordered c st line) (λ next. run ordered c next lines)
