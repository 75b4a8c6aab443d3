use Rattle.std.proofs.lemmas.Bool.{both_ways}
use Rattle.idl_trees.specs.Names.{path_of}
use Rattle.idl_meant.proofs.NameLemmas.{stands_told}
use Rattle.idl_meant.proofs.UseLemmas.{entities_apart}
use Rattle.idl_meant.proofs.names.Names.number.Goals as goal

pub returns-then-hold : goal.returns-then-hold
returns-then-hold c = λ r it are.
    stands_told r it c.args.self.now are c.args.modules (path_of c.args.path.now) (c.hold.ensures.used r.declared.items are.uses c.if-hold.true) c.at.result c.at.ensures

pub returns : goal.returns
returns c = λ r it are. (tt, λ used. absurd (both_ways c.hold.result c.if-hold.false (c.hold.ensures.whole r.declared.items are.uses (entities_apart r it) used)))
