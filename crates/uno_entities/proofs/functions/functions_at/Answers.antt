use Rattle.std.proofs.Common.{arith}
use Rattle.uno_entities.proofs.FunctionLemmas.{share_of}
use Rattle.uno_entities.proofs.functions.functions_at.Goals as goal

pub returns-clause-count : goal.returns-clause-count
returns-clause-count c =
    share_of c.args.search.now.marks.items c.args.entities.now c.args.place c.index-mark.result.now c.index-entities-place.result c.functions_if.result c.requires.place
    c.requires.long c.index-mark.ensures c.functions_if.ensures
