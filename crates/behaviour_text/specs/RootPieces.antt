-- What a root may write, by the pieces of a term.
use Rattle.std.specs.Prelude.{Bool, true, false}
use Rattle.plan_model.specs.Forms.{is_root_word}
use Rattle.term_pieces.specs.Pieces.{Piece}
use Rattle.term_pieces.specs.Pieces as piece

-- a root may write it
abbrev pub is_root_piece : Piece → Bool
is_root_piece (piece.word w) = is_root_word w
is_root_piece (piece.operation op) = false
is_root_piece p = true
