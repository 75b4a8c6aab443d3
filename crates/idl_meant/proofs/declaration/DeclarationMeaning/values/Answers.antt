use Rattle.idl_meant.proofs.MeantLemmas.{values_of_it}
use Rattle.idl_meant.proofs.declaration.DeclarationMeaning.values.Goals as goal

pub returns : goal.returns
returns c =
    values_of_it _ _ c.args.self.now.meaning.now.right (λ it.
    values_of_it _ _ c.args.self.now.there (λ at. c.values_in.ensures c.args.self.now.meaning.now.resolved.now it.numbers_are at))
