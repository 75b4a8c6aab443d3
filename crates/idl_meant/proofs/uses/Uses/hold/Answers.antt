use Rattle.std.proofs.Common.{◌∙◌, sym}
use Rattle.idl_trees.specs.Names.{path_of, place_of}
use Rattle.idl_meant.proofs.UseLemmas.{found_used, used_is_found, used_is_somewhere}
use Rattle.idl_meant.proofs.uses.Uses.hold.Goals as goal

pub returns-in-Some-clause-used : goal.returns-in-Some-clause-used
returns-in-Some-clause-used c = λ all held is.
    found_used all c.args.self.now c.in-Some.found c.args.modules (path_of c.args.path.now) (place_of c.args.path.now.place) held c.in-Some.ensures (sym c.is_use.ensures ∙ is)

pub returns-in-Some-clause-whole : goal.returns-in-Some-clause-whole
returns-in-Some-clause-whole c = λ all held apart used.
    c.is_use.ensures ∙ used_is_found all c.args.self.now c.in-Some.found c.args.modules (path_of c.args.path.now) held apart used c.in-Some.ensures

pub returns-in-None-clause-whole : goal.returns-in-None-clause-whole
returns-in-None-clause-whole c = λ all held apart used. absurd (used_is_somewhere all c.args.self.now c.args.modules (path_of c.args.path.now) held apart used c.in-None.ensures)
