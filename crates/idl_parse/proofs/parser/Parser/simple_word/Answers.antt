use Rattle.std.proofs.Common.{ap}
use Rattle.idl_model.specs.Grammar.{simple_at, placed_simple}
use Rattle.idl_trees.specs.Names.{place_of}
use Rattle.idl_trees.specs.Tokens.{token_of}
use Rattle.idl_trees.specs.Types.{simple_of}
use Rattle.idl_parse.proofs.TokenLemmas.{one_taken}
use Rattle.idl_parse.proofs.parser.Parser.simple_word.Goals as goal

pub returns-clause-gives : goal.returns-clause-gives
returns-clause-gives c =
    one_taken simple_at c.args.self.now c.skip.new.self (token_of c.in-Some.token.now)
    (place_of c.in-Some.token.now.place, simple_of c.in-Some-simple_of.simple) c.in-Some.ensures
    (ap (placed_simple (place_of c.in-Some.token.now.place)) c.in-Some-simple_of.ensures) c.skip.ensures
