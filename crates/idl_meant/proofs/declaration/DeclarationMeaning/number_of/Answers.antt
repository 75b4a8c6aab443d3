use Rattle.std.proofs.lemmas.Bool.{false≢true}
use Rattle.idl_trees.specs.Names.{path_of}
use Rattle.idl_meant.proofs.MeantLemmas.{low_of, name_of, none_of, own_used}
use Rattle.idl_meant.proofs.declaration.DeclarationMeaning.number_of.Goals as goal

pub returns-in-Some-clause-stands : goal.returns-in-Some-clause-stands
returns-in-Some-clause-stands c = (
  low_of _ _ c.args.self.now.meaning.now.right (λ it. (c.in-Some.ensures c.args.self.now.meaning.now.resolved.now it.told it.names_are).0.right.0),
  name_of _ _ c.args.self.now.meaning.now.right (λ it. (c.in-Some.ensures c.args.self.now.meaning.now.resolved.now it.told it.names_are).0.name),
)

pub returns-in-None-clause-used : goal.returns-in-None-clause-used
returns-in-None-clause-used c = λ used.
    let r = c.args.self.now.meaning.now.resolved.now in
    absurd (none_of c.args.self.now.meaning.now.right (λ it. none_of c.args.self.now.there (λ at.
    false≢true ((c.in-None.ensures r it.told it.names_are).1 (own_used r.declared.items c.args.self.now.number c.args.self.now.declared (path_of c.args.path.now) at used)))))
