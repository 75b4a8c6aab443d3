use Rattle.std.proofs.Common.{◌∙◌, FitsSigned, None, ap, pos, rules, unwrap_or}
use Rattle.std.proofs.lemmas.Int.{to_z-of_z}
use Rattle.std.proofs.lemmas.Option.{get_or_from_slice_get}
use Rattle.std.specs.Int.{w32}
use Rattle.registry_reading_model.specs.Kept.{long_or_zero}
use Rattle.idl_meaning_model.specs.ConstantsMeant.{value_meant}
use Rattle.idl_meaning_model.specs.Declarations.{all_valued, valued_in}
use Rattle.idl_meant.specs.Resolving.{all_in}
use Rattle.idl_meant.proofs.ValueLemmas.{value_there}
use Rattle.idl_names.specs.Collected.{declared_of}
use Rattle.idl_trees.specs.Trees.{declaration_of}
use Rattle.idl_meant.proofs.declaration.DeclarationMeaningMeanings.item.Goals as goal

pub returns : goal.returns
returns c = λ v at.
    let r = c.args.self.now.meaning.now.resolved.now in
    let d = c.args.self.now.declared in
    let vs = all_valued (all_in r) in
    let there = value_there vs (valued_in (declared_of r.paths d) (declaration_of d.body.now)) c.values.result.now c.args.place v c.values.ensures at in
    let fits : FitsSigned w32 c.item_kept.result = search rules in
    to_z-of_z w32 c.item_kept.result fits ∙ c.item_kept.ensures ∙ ap (λ o. long_or_zero (unwrap_or o (pos 0))) (c.value_at.ensures ∙ get_or_from_slice_get c.values.result.now c.args.place (value_meant vs v) None there)
