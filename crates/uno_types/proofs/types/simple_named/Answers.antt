use Rattle.uno_types.proofs.TypeTextLemmas.{no_simple}
use Rattle.uno_types.proofs.types.simple_named.Goals as goal

pub returns-in_default : goal.returns-in_default
returns-in_default c =
    let word = c.in_default in
    no_simple c.args.text.now word.not-void word.not-char word.not-boolean word.not-byte word.not-short word.not-text word.not-long word.not-text-2 word.not-hyper word.not-text-3
    word.not-string word.not-type word.not-any
