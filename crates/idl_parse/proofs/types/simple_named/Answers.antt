use Rattle.idl_model.specs.Grammar.{simple_words}
use Rattle.idl_parse.proofs.TableLemmas.{in_no_row, ◌&◌}
use Rattle.idl_parse.proofs.types.simple_named.Goals as goal

pub returns-in_default : goal.returns-in_default
returns-in_default c =
    in_no_row simple_words c.args.word.now
    (c.in_default.not-void & c.in_default.not-char & c.in_default.not-boolean & c.in_default.not-byte
    & c.in_default.not-short & c.in_default.not-long & c.in_default.not-hyper & c.in_default.not-float
    & c.in_default.not-double & c.in_default.not-string & c.in_default.not-type & c.in_default.not-any & tt)
