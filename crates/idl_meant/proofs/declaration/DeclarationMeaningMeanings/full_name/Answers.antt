use Rattle.std.proofs.Common.{◌≡◌, IfOk, subst}
use Rattle.idl_meant.proofs.MeantLemmas.{low_of, name_of, numbers_of, own_low, own_name}
use Rattle.idl_meant.proofs.declaration.DeclarationMeaningMeanings.full_name.Goals as goal

pub full_name-requires : goal.full_name-requires
full_name-requires c =
    let r = c.args.self.now.meaning.now.resolved.now in
    low_of _ _ c.args.self.now.meaning.now.right (λ it. low_of _ _ c.args.self.now.there (λ at.
    own_low r.paths c.args.self.now.declared (numbers_of r.paths r.declared.items c.args.self.now.number c.args.self.now.declared it.told.numbered at)))

pub returns : goal.returns
returns c =
    let r = c.args.self.now.meaning.now.resolved.now in
    subst (λ text. IfOk c.full_name.result (λ name. name ≡ text))
    (name_of _ _ c.args.self.now.meaning.now.right (λ it. name_of _ _ c.args.self.now.there (λ at.
    own_name r.paths c.args.self.now.declared (numbers_of r.paths r.declared.items c.args.self.now.number c.args.self.now.declared it.told.numbered at)))) c.full_name.ensures
