use Rattle.std.proofs.Common.{Ok, sym, ap, ◌∙◌}
use Rattle.idl_model.specs.Grammar.{Tokens, ways}
use Rattle.idl_parse.proofs.TableLemmas.{refused_at, word_read, word_refused, word_shorter}
use Rattle.idl_parse.proofs.parser.Parser.way.Goals as goal

pub returns-in_default-clause-gives : goal.returns-in_default-clause-gives
returns-in_default-clause-gives c =
    refused_at c.unexpected.result c.args.self.now _ c.unexpected.ensures (word_refused ways c.args.self.now (sym c.in_default.ensures))

pub returns-clause-gives : goal.returns-clause-gives
returns-clause-gives c =
    word_read ways c.args.self.now c.in-Some.way (sym c.in-Some.ensures) ∙ ap (λ (k : Tokens). Ok (c.in-Some.way, k)) (sym c.skip.ensures)

pub returns-clause-shorter : goal.returns-clause-shorter
returns-clause-shorter c = rw c.skip.ensures (word_shorter ways c.args.self.now c.in-Some.way (sym c.in-Some.ensures))
