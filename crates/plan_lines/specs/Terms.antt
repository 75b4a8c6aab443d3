-- Terms as plain trees.
use Rattle.std.specs.Prelude.{List, map}
use Rattle.plan_model.specs.Lines.{terms}
use Rattle.plan_model.specs.Lines as plain
use Rattle.term_pieces.specs.Pieces.{term_in}
use Rattle.plan_lines.specs.Pieces.{pieces_of}
use Rattle.plan_lines.specs.declared.term.Term.{Term}

-- the term of the pieces
abbrev pub term_of : Term → plain.Term
term_of t = term_in (pieces_of t.pieces.items)

abbrev pub terms_of : List Term → plain.Terms
terms_of ts = terms (map term_of ts)
