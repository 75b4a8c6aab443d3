use Rattle.std.proofs.Common.{◌≡◌, length}
use Rattle.idl_lex.proofs.PieceLemmas.{end_of}
use Rattle.idl_lex.proofs.piece.behind_comment.Given as goal

abbrev pub invariant-loop-rest : goal.invariant-loop-rest
invariant-loop-rest l = end_of l.rest ≡ end_of l.text

abbrev pub decreases-loop-rest : goal.decreases-loop-rest
decreases-loop-rest l = length l.rest
