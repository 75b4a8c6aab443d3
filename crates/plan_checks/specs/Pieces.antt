-- What a term is by its pieces, and tests of it that are tests of those.
use Rattle.std.specs.Prelude.{ℕ, Bool, true, List, Option, None, Some}
use Rattle.uno_model.specs.Entities.{Entity}
use Rattle.plan_model.specs.Contexts.{Context}
use Rattle.plan_model.specs.Expressions.{variable}
use Rattle.plan_model.specs.KnownNames.{is_type_known, is_word_known}
use Rattle.term_pieces.specs.Pieces.{Piece}
use Rattle.term_pieces.specs.Pieces as piece

-- each name in it is known
abbrev pub is_piece_known : List Entity → Context → Piece → Bool
is_piece_known reg c (piece.type_named k) = is_type_known reg k
is_piece_known reg c (piece.typed k) = is_type_known reg k
is_piece_known reg c (piece.word w) = is_word_known c w
is_piece_known reg c p = true

-- the variable that a last piece is
abbrev pub variable_at : Piece → Option (List ℕ)
variable_at (piece.word (variable name)) = Some name
variable_at p = None
