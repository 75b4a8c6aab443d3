use Rattle.idl_lex.proofs.RunLemmas.{ascii_is_text}
use Rattle.idl_lex.proofs.run.as_text.Goals as goal

pub unreachable-requires : goal.unreachable-requires
unreachable-requires c = c.in-Err.ensures.cases.0 (ascii_is_text c.args.bytes.now c.requires)
