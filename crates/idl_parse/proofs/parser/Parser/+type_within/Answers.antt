use Rattle.std.proofs.Common.{sym, subst, ◌∙◌}
use Rattle.idl_trees.specs.Types.{type_of}
use Rattle.idl_parse.specs.Reading.{Gives}
use Rattle.idl_parse.proofs.TypeLemmas.{named_type}
use Rattle.idl_parse.proofs.parser.Parser.+type_within.Goals as goal

pub type_within-returns-then-begins_name-clause-gives : goal.type_within-returns-then-begins_name-clause-gives
type_within-returns-then-begins_name-clause-gives t c =
    subst (λ read. Gives type_of c.named.result c.named.new.self read)
    (sym (named_type c.args.depth c.args.self.now (sym c.is_keyword.ensures.is ∙ c.if-is_keyword.false) (sym c.begins_name.ensures ∙ c.if-begins_name.true)))
    c.named.ensures.gives
