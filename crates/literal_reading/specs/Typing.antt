-- What a reading of tokens gives: what the verdict gives, unless memory ran out.
use Rattle.std.specs.Borrow.{Bor}
use Rattle.std.specs.Prelude.{◌≡◌, ◌++◌, Bool, List, map, Result, Ok, Err}
use Rattle.uno_model.specs.Entities as plain
use Rattle.uno_model.specs.Kinds.{Kind}
use Rattle.literal_model.specs.Readings.{Fault, misfit}
use Rattle.literal_model.specs.Readings.{is_comma, opens_square, closes_square, opens_curly, closes_curly}
use Rattle.literal_model.specs.Literals.{Token}
use Rattle.literal_model.specs.Shapes.{Placed}
use Rattle.uno_model.specs.Values.{Plain}
use Rattle.uno_types.specs.Members.{fields_at}
use Rattle.uno_entities.specs.declared.entity.Field.{Field}
use Rattle.literal_reading.specs.declared.stop.Stop.{Stop}
use Rattle.literal_reading.specs.declared.stop.Stop.TheVariants as stop
use Rattle.literal_reading.specs.declared.typed.expect.Mark.{Mark}
use Rattle.literal_reading.specs.declared.typed.expect.Mark.TheVariants as mark

abbrev pub FailedBy : {Y : Type 0} → Stop → Result Y Fault → Type 0
FailedBy stop.NoMemory verdict = Unit {0}
FailedBy (stop.Bad left) verdict = verdict ≡ Err (misfit left)

abbrev pub Gives : {X Y : Type 0} → (X → Y) → Result X Stop → Result Y Fault → Type 0
Gives view (Ok x) verdict = verdict ≡ Ok (view x)
Gives view (Err e) verdict = FailedBy e verdict

-- a value that was read, and the tokens behind it
abbrev pub before : Plain → List Placed → Result (Plain × List Placed) Fault
before x rest = Ok (x, rest)

-- values in front of those that are read
abbrev pub with_firsts : {X : Type 0} → List X → Result (List X × List Placed) Fault → Result (List X × List Placed) Fault
with_firsts xs (Ok y) = Ok (xs ++ y.0, y.1)
with_firsts xs (Err e) = Err e

-- the test of a mark
abbrev pub mark_test : Mark → Token → Bool
mark_test mark.Comma = is_comma
mark_test mark.OpensSquare = opens_square
mark_test mark.ClosesSquare = closes_square
mark_test mark.OpensCurly = opens_curly
mark_test mark.ClosesCurly = closes_curly

-- the types of members that are borrowed
abbrev pub kinds_at : List (Bor Field) → List Kind
kinds_at fields = map (λ (f : plain.Field). f.kind) (fields_at fields)
