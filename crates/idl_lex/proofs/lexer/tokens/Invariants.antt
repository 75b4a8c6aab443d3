use Rattle.std.proofs.Common.{length}
use Rattle.idl_trees.specs.Tokens.{tokens_of}
use Rattle.idl_lex.proofs.LexingLemmas.{IsLexing}
use Rattle.idl_lex.proofs.lexer.tokens.Given as goal

-- the tokens so far, and those of what is left, are the tokens of the file
abbrev pub invariant-loop-left : goal.invariant-loop-left
invariant-loop-left l = IsLexing l.file l.text (tokens_of l.tokens.items) l.left

abbrev pub decreases-loop-left : goal.decreases-loop-left
decreases-loop-left l = length l.left
