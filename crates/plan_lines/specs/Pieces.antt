-- Pieces of terms as plain ones.
use Rattle.std.specs.Prelude.{List, map}
use Rattle.literal_reading.specs.Scanning.{token_of}
use Rattle.plan_types.specs.Expressions.{word_of}
use Rattle.term_pieces.specs.Pieces as plain
use Rattle.plan_lines.specs.declared.piece.Piece.{Piece}
use Rattle.plan_lines.specs.declared.piece.Piece.TheVariants as piece

abbrev pub piece_of : Piece → plain.Piece
piece_of (piece.Leaf t) = plain.leaf (token_of t)
piece_of (piece.Type k) = plain.type_named k
piece_of piece.VoidAny = plain.void_any
piece_of (piece.Typed k) = plain.typed k
piece_of (piece.Elements n) = plain.elements n
piece_of (piece.Members n) = plain.members n
piece_of (piece.Word w) = plain.word (word_of w)
piece_of (piece.Operation op) = plain.operation op

abbrev pub pieces_of : List Piece → List plain.Piece
pieces_of ps = map piece_of ps
