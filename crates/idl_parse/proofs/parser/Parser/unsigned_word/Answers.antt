use Rattle.idl_model.specs.Grammar.{unsigned_at}
use Rattle.idl_trees.specs.Tokens.{token_of}
use Rattle.idl_trees.specs.Types.{simple_of}
use Rattle.idl_parse.proofs.TokenLemmas.{one_taken}
use Rattle.idl_parse.proofs.parser.Parser.unsigned_word.Goals as goal

pub returns-clause-gives : goal.returns-clause-gives
returns-clause-gives c =
    one_taken unsigned_at c.args.self.now c.skip.new.self (token_of c.in-Some.token.now) (simple_of c.in-Some-unsigned_of.simple) c.in-Some.ensures
    c.in-Some-unsigned_of.ensures
    c.skip.ensures
