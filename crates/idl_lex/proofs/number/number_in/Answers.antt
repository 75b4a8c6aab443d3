use Rattle.std.proofs.Common.{◌∙◌}
use Rattle.idl_lex.proofs.NumberLemmas.{parsed}
use Rattle.idl_lex.proofs.RunLemmas.{word_is_ascii}
use Rattle.idl_lex.proofs.number.number_in.Goals as goal

pub as_text-requires : goal.as_text-requires
as_text-requires c = word_is_ascii c.args.digits.now c.requires.word

pub returns : goal.returns
returns c =
    c.ok.ensures.value
    ∙ parsed c.args.base c.args.digits.now c.as_text.result.now c.from_str_radix.result c.requires.word c.as_text.ensures c.from_str_radix.ensures.value
