use Rattle.idl_lex.proofs.LexingLemmas.{all_end}
use Rattle.idl_lex.proofs.lex.Goals as goal

pub returns-clause-end : goal.returns-clause-end
returns-clause-end c = all_end c.args.file c.args.bytes.now c.tokens.result c.tokens.ensures.tokens
