use Rattle.std.proofs.Common.{◌∙◌, ap, refl, sym}
use Rattle.idl_meant.proofs.ShapeLemmas.{named_shape, named_used, sequence_shape, sequence_used, simple_shape}
use Rattle.idl_model.specs.Trees.{WrittenType, sequence_of}
use Rattle.idl_trees.specs.Names.{place_of}
use Rattle.idl_trees.specs.Types.{type_of, type_step}
use Rattle.idl_trees.specs.declared.written_type.WrittenType.TheFolds.{fold-roll-WrittenType}
use Rattle.idl_trees.specs.declared.written_type.WrittenType.TheOpen.{WrittenType-F}
use Rattle.idl_trees.specs.declared.written_type.WrittenType.TheVariants.{rolls-Named, rolls-SequenceOf, rolls-Simple}
use Rattle.idl_meant.proofs.names.Names.+shape.Goals as goal

pub returns-in-Simple : goal.returns-in-Simple
returns-in-Simple t c = λ r it are. (
  simple_shape r c.args.self.now.owners.items c.args.modules (type_of c.args.written.now) _ c.in-Simple.simple
      (ap type_of (c.in-Simple.is ∙ sym (rolls-Simple c.in-Simple.field-0 c.in-Simple.simple)) ∙ fold-roll-WrittenType WrittenType type_step (WrittenType-F.Simple c.in-Simple.field-0 c.in-Simple.simple)),
  λ due. refl,
)

pub returns-in-Named : goal.returns-in-Named
returns-in-Named t c = λ r it are.
    let is = ap type_of (c.in-Named.is ∙ sym (rolls-Named c.in-Named.path)) ∙ fold-roll-WrittenType WrittenType type_step (WrittenType-F.Named c.in-Named.path) in (
      named_shape r c.args.self.now.owners.items c.args.modules (type_of c.args.written.now) _ is c.named_shape.result (c.named_shape.ensures r it are).0,
      λ due. (c.named_shape.ensures r it are).1 (named_used r c.args.modules (type_of c.args.written.now) _ is due),
    )

pub returns-in-Some : goal.returns-in-Some
returns-in-Some t c = λ r it are. (
  sequence_shape r c.args.self.now.owners.items c.args.modules (type_of c.args.written.now) _ _ c.in-Some.shape c.sequence_of.result
      (ap type_of (c.in-SequenceOf.is ∙ sym (rolls-SequenceOf c.in-SequenceOf.field-0 c.in-SequenceOf.inner)) ∙ fold-roll-WrittenType WrittenType type_step (WrittenType-F.SequenceOf c.in-SequenceOf.field-0 c.in-SequenceOf.inner)
      ∙ ap (λ t'. sequence_of (place_of c.in-SequenceOf.field-0) (type_of t')) (sym c.deref.ensures)) (c.in-Some.ensures r it are).0 c.sequence_of.ensures,
  λ due. refl,
)

pub returns-in-None : goal.returns-in-None
returns-in-None t c = λ r it are. (
  tt,
  λ due. (c.in-None.ensures r it are).1 (sequence_used r c.args.modules (type_of c.args.written.now) _ _
      (ap type_of (c.in-SequenceOf.is ∙ sym (rolls-SequenceOf c.in-SequenceOf.field-0 c.in-SequenceOf.inner)) ∙ fold-roll-WrittenType WrittenType type_step (WrittenType-F.SequenceOf c.in-SequenceOf.field-0 c.in-SequenceOf.inner)
      ∙ ap (λ t'. sequence_of (place_of c.in-SequenceOf.field-0) (type_of t')) (sym c.deref.ensures)) due),
)
