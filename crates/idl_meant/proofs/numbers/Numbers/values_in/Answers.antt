use Rattle.std.proofs.Common.{◌∙◌, ap, slice_get, sym}
use Rattle.idl_meant.proofs.ValueLemmas.{has_start, own_values}
use Rattle.idl_meant.proofs.numbers.Numbers.values_in.Goals as goal

pub returns-in_default : goal.returns-in_default
returns-in_default c = λ r are at.
    absurd (has_start r c.args.self.now are c.args.number c.args.declared.now at (ap (λ xs. slice_get xs c.args.number) (sym c.as_slice.ensures.value) ∙ sym c.in_default.ensures))

pub returns : goal.returns
returns c = λ r are at.
    own_values r c.args.self.now are c.args.number c.args.declared.now at c.as_slice-2.result.now c.part.result.now c.in-Some.start c.value_count.result c.as_slice-2.ensures.value
    (ap (λ xs. slice_get xs c.args.number) (sym c.as_slice.ensures.value) ∙ sym c.in-Some.ensures) c.value_count.ensures c.part.ensures
