use Rattle.std.proofs.Common.{◌≡◌, ◌≤◌, ◌∙◌, IfOk, ap, length, subst, sym}
use Rattle.idl_meant.specs.FullNames.{AreFullNames}
use Rattle.idl_meant.specs.Shaping.{bound_of}
use Rattle.idl_meant.specs.Typing.{shape_kind}
use Rattle.idl_meant.proofs.MeantLemmas.{told_kind}
use Rattle.uno_entities.specs.Entities.{entities_of}
use Rattle.uno_entities.specs.TypeNames.{kind_of}
use Rattle.idl_meant.proofs.declaration.DeclarationMeaningMeanings.kind.Goals as goal

pub made-requires : goal.made-requires
made-requires c = subst (λ ps. bound_of c.in_ok-shape.shape.leaf ≤ length ps) (sym c.types.ensures.paths) c.in_ok-shape.ensures.low

pub returns : goal.returns
returns c =
    told_kind c.made.result _ c.args.self.now.meaning.now.right (λ it.
    subst (λ k. IfOk c.made.result (λ made. kind_of made ≡ k))
    ((λ i. shape_kind (c.types.ensures.paths i) (c.types.ensures.all i) (c.types.ensures.owners i) c.in_ok-shape.shape) ∙ c.in_ok-shape.ensures.kind)
    (c.made.ensures (subst (λ names. AreFullNames c.types.result.paths.now names) (sym c.types.ensures.full_names) (subst (λ ps. AreFullNames ps c.args.self.now.meaning.now.full_names.items) (sym c.types.ensures.paths) it.full_names_are)) (ap entities_of c.types.ensures.built_in ∙ it.built_in_are)))
