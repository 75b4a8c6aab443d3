-- What is read, with what stands behind it.
use Rattle.std.specs.Prelude.{ℕ, List, Option, None, Some}
use Rattle.std.specs.Borrow.{Bor}
use Rattle.plan_model.specs.Expressions as expression
use Rattle.plan_model.specs.Lines as plain
use Rattle.plan_types.specs.Expressions.{word_of}
use Rattle.plan_types.specs.declared.word.Word.{Word}
use Rattle.term_pieces.specs.Pieces as bare
use Rattle.plan_lines.specs.Lines.{declared_of}
use Rattle.plan_lines.specs.Pieces.{piece_of}
use Rattle.plan_lines.specs.Terms.{term_of}
use Rattle.plan_lines.specs.declared.line.Declared.{Declared}
use Rattle.plan_lines.specs.declared.piece.Piece.{Piece}
use Rattle.plan_lines.specs.declared.term.Term.{Term}

abbrev pub term_front : Term × Bor (List ℕ) → plain.Term × List ℕ
term_front x = (term_of x.0, x.1.now)

abbrev pub word_front : Word × Bor (List ℕ) → expression.Word × List ℕ
word_front x = (word_of x.0, x.1.now)

abbrev pub declared_front : Declared × Bor (List ℕ) → plain.Declared × List ℕ
declared_front x = (declared_of x.0, x.1.now)

-- the term of a piece that holds none
abbrev pub alone : bare.Piece → Option plain.Term
alone (bare.leaf t) = Some (plain.leaf t)
alone (bare.type_named k) = Some (plain.type_named k)
alone bare.void_any = Some plain.void_any
alone (bare.word w) = Some (plain.word w)
alone p = None

abbrev pub piece_front : Piece × Bor (List ℕ) → Option plain.Term × List ℕ
piece_front x = (alone (piece_of x.0), x.1.now)

abbrev pub as_pieces : Option (plain.Term × List ℕ) → Option (Option plain.Term × List ℕ)
as_pieces None = None
as_pieces (Some x) = Some (Some x.0, x.1)
