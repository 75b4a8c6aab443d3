use Rattle.idl_model.specs.Grammar.{property_flags}
use Rattle.idl_parse.proofs.TableLemmas.{in_no_row, ◌&◌}
use Rattle.idl_parse.proofs.flags.property_flag.Goals as goal

pub returns-in_default : goal.returns-in_default
returns-in_default c =
    in_no_row property_flags c.args.word.now
    (c.in_default.not-bound & c.in_default.not-constrained & c.in_default.not-maybeambiguous & c.in_default.not-maybedefault
    & c.in_default.not-maybevoid & c.in_default.not-optional & c.in_default.not-readonly & c.in_default.not-removable
    & c.in_default.not-transient & tt)
