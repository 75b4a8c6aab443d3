use Rattle.idl_lex.proofs.RunLemmas.{word_is_ascii}
use Rattle.idl_lex.proofs.guesses.Guesses.word.Goals as goal

pub as_text-requires : goal.as_text-requires
as_text-requires c = word_is_ascii c.args.spelled.now c.requires.letters
