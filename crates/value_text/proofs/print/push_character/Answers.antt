use Rattle.std.proofs.Common.{sym, ap, ◌∙◌, ◌++◌, string_bytes}
use Rattle.value_text.proofs.PrintLemmas.{plain_character}
use Rattle.value_text.proofs.print.push_character.Goals as goal

pub returns : goal.returns
returns c = c.in_ok-push.ensures.bytes ∙ ap (λ t. string_bytes c.args.text.now ++ t) (sym (plain_character c.args.character c.if-character-eq34.false c.if-character-eq92.false c.if-character-eq10.false))
