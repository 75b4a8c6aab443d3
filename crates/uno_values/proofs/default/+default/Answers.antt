use Rattle.uno_values.proofs.DefaultLemmas.{one_more_member, struct_default, exception_default}
use Rattle.uno_values.proofs.default.+default.Goals as goal

pub defaults_of-loop-field-preserved : goal.defaults_of-loop-field-preserved
defaults_of-loop-field-preserved t c =
    one_more_member _ _ _ _ _ _ _ c.loop-field-test.true c.field-item.is c.loop-field.invariant c.in_ok-default_within.ensures c.in_ok-push.ensures.items

pub default_tuple-returns-clause-structs : goal.default_tuple-returns-clause-structs
default_tuple-returns-clause-structs t c =
    struct_default _ c.requires _ _ _ _ c.in_ok-tuple_of.ensures (rw c.deref.ensures.value at c.in_ok-members.ensures) (rw c.as_str.ensures at c.in_ok-fields.ensures)

pub default_tuple-returns-clause-exceptions : goal.default_tuple-returns-clause-exceptions
default_tuple-returns-clause-exceptions t c =
    exception_default _ c.requires _ _ _ _ c.in_ok-tuple_of.ensures (rw c.deref.ensures.value at c.in_ok-members.ensures) (rw c.as_str.ensures at c.in_ok-fields.ensures)
