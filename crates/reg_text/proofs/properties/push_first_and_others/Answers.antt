use Rattle.std.proofs.Common.{◌++◌, ap, ◌∙◌}
use Rattle.reg_text.proofs.TextLemmas.{word_between}
use Rattle.reg_text.proofs.properties.push_first_and_others.Goals as goal

pub returns : goal.returns
returns c =
    word_between _ _ _ _ _ _ (c.in_ok-extend_from_slice.ensures.items ∙ ap (λ t. c.args.text.now.items ++ t) c.as_bytes.ensures.value) c.in_ok-push_behind_commas.ensures c.in_ok-push.ensures.items
