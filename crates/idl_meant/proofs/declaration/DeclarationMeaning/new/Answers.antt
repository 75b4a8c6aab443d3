use Rattle.std.proofs.Common.{◌∙◌, Some, ap, sym}
use Rattle.std.proofs.lemmas.Option.{slice_get-get_or}
use Rattle.idl_meant.proofs.declaration.DeclarationMeaning.new.Goals as goal

pub invariant_of-result : goal.invariant_of-result
invariant_of-result c =
    let at = slice_get-get_or c.args.meaning.now.resolved.now.declared.items c.args.number c.index.result.now c.requires in
    record { there = ∣ at ∙ ap Some (sym c.index.ensures) ∣₁ }

pub returns-clause-declared : goal.returns-clause-declared
returns-clause-declared c = slice_get-get_or c.args.meaning.now.resolved.now.declared.items c.args.number c.index.result.now c.requires ∙ ap Some (sym c.index.ensures)
