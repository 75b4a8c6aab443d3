use Rattle.std.proofs.Common.{Ok, sym, ap, ◌∙◌}
use Rattle.idl_model.specs.Grammar.{Tokens}
use Rattle.idl_trees.specs.Members.{flag_of}
use Rattle.idl_parse.proofs.TableLemmas.{refused_at, word_read, word_refused, word_shorter}
use Rattle.idl_parse.specs.Flags.{flags_beside}
use Rattle.idl_parse.proofs.parser.Parser.flag.Goals as goal

pub returns-in_default-clause-gives : goal.returns-in_default-clause-gives
returns-in_default-clause-gives c =
    refused_at c.unexpected.result c.args.self.now _ c.unexpected.ensures
    (word_refused (flags_beside c.args.flagged) c.args.self.now (sym c.in_default.ensures))

pub returns-clause-gives : goal.returns-clause-gives
returns-clause-gives c =
    word_read (flags_beside c.args.flagged) c.args.self.now (flag_of c.in-Some.flag) (sym c.in-Some.ensures)
    ∙ ap (λ (k : Tokens). Ok (flag_of c.in-Some.flag, k)) (sym c.skip.ensures)

pub returns-clause-shorter : goal.returns-clause-shorter
returns-clause-shorter c = rw c.skip.ensures (word_shorter (flags_beside c.args.flagged) c.args.self.now (flag_of c.in-Some.flag) (sym c.in-Some.ensures))
