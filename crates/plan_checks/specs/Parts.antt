-- The pieces of a term at the types of their places.
use Rattle.std.specs.Borrow.{Bor}
use Rattle.std.specs.Prelude.{◌≡◌, ◌≤◌, ℕ, List, [], ◌∷◌, length, map, reverse, Option, None, Result, Ok, Err}
use Rattle.uno_model.specs.Entities.{Entity}
use Rattle.uno_model.specs.Kinds as kd
use Rattle.uno_model.specs.NamedTypes.{type_of_text}
use Rattle.plan_model.specs.Expressions as expression
use Rattle.plan_model.specs.declared.line_reason.LineReason.TheVariants.{Misfit}
use Rattle.term_pieces.specs.Parts.{Asked, misfit, asked, made_of}
use Rattle.term_pieces.specs.Parts as plain
use Rattle.term_pieces.specs.Pieces.{Piece}
use Rattle.term_pieces.specs.Pieces as piece
use Rattle.plan_types.specs.Expressions.{expression_of}
use Rattle.plan_types.specs.declared.expression.Expression.{Expression}
use Rattle.uno_entities.specs.TypeNames.{kind_of}
use Rattle.uno_entities.specs.declared.type_name.TypeName.{TypeName}
use Rattle.plan_checks.specs.Checks.{MisfitBy}
use Rattle.plan_checks.specs.declared.line_error.LineError.{LineError}
use Rattle.plan_checks.specs.declared.line_error.LineError.TheVariants as error
use Rattle.plan_checks.specs.declared.typing.parts.Part.{Part}
use Rattle.plan_checks.specs.declared.typing.parts.Part.TheVariants as part

abbrev pub part_of : Part → plain.Part
part_of (part.Whole x) = plain.whole (expression_of x)
part_of (part.Any k) = plain.any (kind_of k.now)
part_of (part.Elements k n) = plain.elements (kind_of k.now) n
part_of (part.Members name n) = plain.members name.now n
part_of (part.Operation op) = plain.operation op

-- the last one first
abbrev pub laid : List Part → List plain.Part
laid ps = reverse (map part_of ps)

-- how many expressions a part holds
abbrev pub held_in : plain.Part → ℕ
held_in (plain.any k) = 1
held_in (plain.elements k n) = n
held_in (plain.members name n) = n
held_in (plain.operation op) = 2
held_in (plain.whole x) = 0

-- each part finds the expressions that it holds, and one is left behind all
unfoldable pub MakeOne : List expression.Expression → List plain.Part → Type 0
MakeOne es [] = length es ≡ 1
MakeOne es (q ∷ qs) = (held_in q ≤ length es) × MakeOne (plain.put_part es q) qs

abbrev pub kinds_asked : List (Bor TypeName) → List kd.Kind
kinds_asked ks = reverse (map (λ k. kind_of k.now) ks)

abbrev pub stack_of : List Expression → List expression.Expression
stack_of es = reverse (map expression_of es)

-- what is asked where these parts and types are laid
abbrev pub asked_of : List Part → List (Bor TypeName) → Asked
asked_of ps ks = asked (laid ps) (kinds_asked ks)

-- the type of the value of an any
abbrev pub named_in : List Entity → Piece → Option kd.Kind
named_in reg (piece.typed t) = type_of_text reg t
named_in reg p = None

-- a piece does not fit
abbrev pub LostBy : LineError → Asked → Type 0
LostBy error.NoMemory defined = Unit {0}
LostBy (error.Wrong why) defined = (defined ≡ misfit) × (why ≡ Misfit)

abbrev pub GoesBack : {X : Type 0} → Result X LineError → Asked → Asked → Type 0
GoesBack (Ok x) now defined = defined ≡ now
GoesBack (Err e) now defined = LostBy e defined

-- all parts of one term, the last one first
abbrev pub Parts : {X : Type 0} → (X → List plain.Part) → Result X LineError → Asked → Type 0
Parts view (Ok x) defined = defined ≡ asked (view x) []
Parts view (Err e) defined = MisfitBy e (made_of defined)
