use Rattle.std.proofs.Common.{◌∙◌, ap, length, refl, sym}
use Rattle.idl_names.specs.Collected.{declared_of}
use Rattle.idl_names.proofs.LookupLemmas.{value_one, value_more}
use Rattle.idl_names.proofs.lookup.value_named.Goals as goal
use Rattle.idl_trees.specs.Names.{path_of}

pub own_value-requires-clause-one : goal.own_value-requires-clause-one
own_value-requires-clause-one c = sym (ap length c.as_slice-parts.ensures.value) ∙ c.if-parts-eq1.true

pub returns-then-parts-eq1 : goal.returns-then-parts-eq1
returns-then-parts-eq1 c =
    value_one c.args.paths.now c.args.marks.now (declared_of c.args.paths.now c.args.declared.now) (path_of c.args.path.now) c.own_value.result
    (sym (ap length c.as_slice-parts.ensures.value) ∙ c.if-parts-eq1.true) c.own_value.ensures

pub named-requires-clause-low : goal.named-requires-clause-low
named-requires-clause-low c = c.requires.numbers.low

pub returns : goal.returns
returns c =
    value_more c.args.paths.now c.args.marks.now (declared_of c.args.paths.now c.args.declared.now) c.args.declared.now.modules (path_of c.args.path.now) c.named.result
    (λ one. c.if-parts-eq1.false (ap length c.as_slice-parts.ensures.value ∙ one)) refl c.named.ensures
