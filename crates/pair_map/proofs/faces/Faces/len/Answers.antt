use Rattle.std.proofs.Common.{◌∙◌, sym, ap, length, arith}
use Rattle.pair_map.specs.Layout.{rows_of}
use Rattle.pair_map.proofs.Counting.{few_distinct}
use Rattle.pair_map.proofs.faces.Faces.len.Goals as goal

pub returns-in-Empty-clause-distinct : goal.returns-in-Empty-clause-distinct
returns-in-Empty-clause-distinct g c = let none = ap length (sym c.self.view_is ∙ ap rows_of c.in-Empty.is) in few_distinct c.args.self.now (omega (arith, none))

pub returns-in-Lone-clause-distinct : goal.returns-in-Lone-clause-distinct
returns-in-Lone-clause-distinct g c = let one = ap length (sym c.self.view_is ∙ ap rows_of c.in-Lone.is) in few_distinct c.args.self.now (omega (arith, one))
