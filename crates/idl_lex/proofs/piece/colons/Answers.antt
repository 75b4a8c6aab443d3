use Rattle.std.proofs.Common.{sym, ◌∙◌}
use Rattle.idl_lex.proofs.MarkLemmas.{colons_found, colon_alone}
use Rattle.idl_lex.proofs.piece.colons.Goals as goal

pub returns-then-begins : goal.returns-then-begins
returns-then-begins c = colons_found c.args.text.now (sym c.begins.ensures.is ∙ c.if-begins.true)

pub returns : goal.returns
returns c = colon_alone c.args.text.now c.requires (sym c.begins.ensures.is ∙ c.if-begins.false)
