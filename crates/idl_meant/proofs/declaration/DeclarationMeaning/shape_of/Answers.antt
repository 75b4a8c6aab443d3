use Rattle.std.proofs.Common.{sym}
use Rattle.std.proofs.lemmas.Bool.{false≢true}
use Rattle.idl_meant.proofs.MeantLemmas.{at_most_of, kind_of_it, none_of, own_used}
use Rattle.idl_meant.proofs.declaration.DeclarationMeaning.shape_of.Goals as goal

pub returns-in-Some-clause-low : goal.returns-in-Some-clause-low
returns-in-Some-clause-low c = at_most_of _ _ c.args.self.now.meaning.now.right (λ it. (c.in-Some.ensures c.args.self.now.meaning.now.resolved.now it.told it.names_are).0.low)

pub returns-in-Some-clause-kind : goal.returns-in-Some-clause-kind
returns-in-Some-clause-kind c = kind_of_it _ _ c.args.self.now.meaning.now.right (λ it. sym (c.in-Some.ensures c.args.self.now.meaning.now.resolved.now it.told it.names_are).0.kind)

pub returns-in-None-clause-used : goal.returns-in-None-clause-used
returns-in-None-clause-used c = λ used.
    let r = c.args.self.now.meaning.now.resolved.now in
    absurd (none_of c.args.self.now.meaning.now.right (λ it. none_of c.args.self.now.there (λ at.
    false≢true ((c.in-None.ensures r it.told it.names_are).1 (λ p in'. own_used r.declared.items c.args.self.now.number c.args.self.now.declared p at (used p in'))))))
