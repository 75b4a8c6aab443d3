use Rattle.idl_trees.specs.Names.{place_of}
use Rattle.idl_repeated_names.proofs.SumsLemmas.{kept_found, own_found}
use Rattle.idl_repeated_names.proofs.least.least_with.Goals as goal

pub returns-then-found : goal.returns-then-found
returns-then-found c = λ them sums. own_found (place_of c.args.own) them c.args.found c.lesser_of.result sums c.if-found.true c.lesser_of.ensures

pub returns : goal.returns
returns c = λ them sums. kept_found (place_of c.args.own) them c.args.found sums c.if-found.false
