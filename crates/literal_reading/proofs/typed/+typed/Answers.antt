use Rattle.std.proofs.Common.{◌≡◌, ◌-◌, ◌+◌, ◌∙◌, [], length, map, sym, ap, arith}
use Rattle.std.proofs.lemmas.List.{nil_from_length, map-append}
use Rattle.literal_model.specs.Readings.{value_within}
use Rattle.uno_model.specs.Entities.{Field}
use Rattle.uno_model.specs.Registry.{all_members}
use Rattle.uno_entities.specs.TypeNames.{kind_of}
use Rattle.uno_values.specs.Values.{plain_of}
use Rattle.literal_reading.proofs.TypedLemmas.{element_fails, element_alone, element_last, element_lost, element_next, handed_over, member_next}
use Rattle.literal_reading.proofs.TypedLemmas.{member_fails, comma_fails, members_close, kinds_more, kinds_done, tuple_fails}
use Rattle.literal_reading.specs.Scanning.{all_placed, placed_of}
use Rattle.literal_reading.specs.Typing.{kinds_at}
use Rattle.literal_reading.proofs.typed.+typed.Goals as goal

pub elements_on-returns-in_err-value : goal.elements_on-returns-in_err-value
elements_on-returns-in_err-value t c =
    handed_over _ c.from_residual.result c.in_err-value.field-0.0 _ c.from_residual.ensures (element_fails (length c.args.tokens.now - c.loop.counter) c.args.left (value_within c.args.inner c.args.registry.now (kind_of c.args.element.now)) (all_placed c.loop.rest.now) (map plain_of c.loop.elements.items) _ c.in_err-value.field-0.0 (omega arith) c.in_err-value.ensures c.loop.invariant)

pub elements_on-returns-in_default : goal.elements_on-returns-in_default
elements_on-returns-in_default t c =
    let none : all_placed c.in_ok-value.behind.now ≡ [] = ap all_placed (nil_from_length c.in_ok-value.behind.now c.in_default.ensures.cases) in
    element_alone (length c.args.tokens.now - c.loop.counter) c.args.left (value_within c.args.inner c.args.registry.now (kind_of c.args.element.now)) (all_placed c.loop.rest.now) (all_placed c.in_ok-value.behind.now) (plain_of c.in_ok-value.value) (map plain_of c.loop.elements.items) _ (omega arith) c.in_ok-value.ensures none c.loop.invariant

pub elements_on-returns-then-is_mark : goal.elements_on-returns-then-is_mark
elements_on-returns-then-is_mark t c =
    element_last (length c.args.tokens.now - c.loop.counter) c.args.left (value_within c.args.inner c.args.registry.now (kind_of c.args.element.now)) (all_placed c.loop.rest.now) (all_placed c.in_ok-value.behind.now) (all_placed c.in-Some.after.now) (placed_of c.in-Some.next.now) (plain_of c.in_ok-value.value) (map plain_of c.loop.elements.items) _ _ (omega arith) c.in_ok-value.ensures (ap all_placed c.in-Some.ensures.cases.0) (sym c.if-is_mark.ensures)
    (ap (map plain_of) c.in_ok-push.ensures.items ∙ map-append plain_of c.loop.elements.items _) c.loop.invariant

pub elements_on-returns-then-not-is_mark : goal.elements_on-returns-then-not-is_mark
elements_on-returns-then-not-is_mark t c =
    element_lost (length c.args.tokens.now - c.loop.counter) c.args.left (value_within c.args.inner c.args.registry.now (kind_of c.args.element.now)) (all_placed c.loop.rest.now) (all_placed c.in_ok-value.behind.now) (all_placed c.in-Some.after.now) (placed_of c.in-Some.next.now) (plain_of c.in_ok-value.value) (map plain_of c.loop.elements.items) _ (omega arith) c.in_ok-value.ensures (ap all_placed c.in-Some.ensures.cases.0) (sym c.if-is_mark.ensures)
    (sym c.if-not-is_mark.ensures) c.loop.invariant

pub elements_on-loop-preserved : goal.elements_on-loop-preserved
elements_on-loop-preserved t c =
    element_next (length c.args.tokens.now - c.loop.counter) (length c.args.tokens.now - (c.loop.counter + 1)) c.args.left (value_within c.args.inner c.args.registry.now (kind_of c.args.element.now)) (all_placed c.loop.rest.now) (all_placed c.in_ok-value.behind.now) (all_placed c.in-Some.after.now) (placed_of c.in-Some.next.now) (plain_of c.in_ok-value.value) (map plain_of c.loop.elements.items) _ _
    (omega arith) (omega arith) c.in_ok-value.ensures (ap all_placed c.in-Some.ensures.cases.0) (sym c.if-is_mark.ensures) (sym c.if-not-is_mark.ensures) (ap (map plain_of) c.in_ok-push.ensures.items ∙ map-append plain_of c.loop.elements.items _) c.loop.invariant

pub members_on-returns-in_err-front : goal.members_on-returns-in_err-front
members_on-returns-in_err-front t c =
    let inv = rw (kinds_more c.args.fields.now c.loop-field.field-index c.field-item.result (omega arith) c.field-item.is) at c.loop-field.invariant in
    handed_over _ c.from_residual.result c.in_err-front.field-0.0 _ c.from_residual.ensures
    (comma_fails (value_within c.args.inner c.args.registry.now) c.args.left c.loop-field.is_first (kind_of c.field-item.result.now.kind) _ (all_placed c.loop-field.rest.now) (map plain_of c.loop-field.members.items) _ c.in_err-front.field-0.0 c.in_err-front.ensures inv)

pub members_on-returns-in_err-value : goal.members_on-returns-in_err-value
members_on-returns-in_err-value t c =
    let inv = rw (kinds_more c.args.fields.now c.loop-field.field-index c.field-item.result (omega arith) c.field-item.is) at c.loop-field.invariant in
    handed_over _ c.from_residual-in_err-value.result c.in_err-value.field-0.0 _ c.from_residual-in_err-value.ensures
    (member_fails (value_within c.args.inner c.args.registry.now) c.args.left c.loop-field.is_first (kind_of c.field-item.result.now.kind) _ (all_placed c.loop-field.rest.now) (all_placed c.in_ok-front.front.now) (map plain_of c.loop-field.members.items) _ c.in_err-value.field-0.0 c.in_ok-front.ensures c.in_err-value.ensures inv)

pub members_on-loop-field-preserved : goal.members_on-loop-field-preserved
members_on-loop-field-preserved t c =
    let inv = rw (kinds_more c.args.fields.now c.loop-field.field-index c.field-item.result (omega arith) c.field-item.is) at c.loop-field.invariant in
    let pushed = ap (map plain_of) c.in_ok-push.ensures.items ∙ map-append plain_of c.loop-field.members.items _ in
    member_next (value_within c.args.inner c.args.registry.now) c.args.left c.loop-field.is_first (kind_of c.field-item.result.now.kind) _ (all_placed c.loop-field.rest.now) (all_placed c.in_ok-front.front.now) (all_placed c.in_ok-value.behind.now) (plain_of c.in_ok-value.value)
    (map plain_of c.loop-field.members.items) _ _ c.in_ok-front.ensures c.in_ok-value.ensures pushed inv

pub members_on-returns : goal.members_on-returns
members_on-returns t c =
    let inv = rw (kinds_done c.args.fields.now c.loop-field.field-index (omega arith)) at c.loop-field.invariant in
    members_close (value_within c.args.inner c.args.registry.now) c.args.left c.loop-field.is_first (all_placed c.loop-field.rest.now) (map plain_of c.loop-field.members.items) _ _ c.expect.result c.expect.ensures inv

pub tuple_of-returns-in-Err : goal.tuple_of-returns-in-Err
tuple_of-returns-in-Err t c =
    let members : all_members c.args.registry.now c.as_str.result.now ≡ all_members c.args.registry.now c.args.name.now = ap (all_members c.args.registry.now) c.as_str.ensures in
    let kinds = ap kinds_at c.deref.ensures.value ∙ ap (map (λ (f : Field). f.kind)) (c.in_ok-fields.ensures ∙ members) in
    tuple_fails c.args.registry.now (value_within c.args.inner c.args.registry.now) c.left_at-left.result c.args.name.now _ (all_placed c.args.tokens.now) (all_placed c.in_ok-rest.rest.now) _ c.in-Err.stop c.left_at-left.ensures kinds
    c.in_ok-rest.ensures (ap (map plain_of) c.new-members.ensures.items) c.in-Err.ensures
