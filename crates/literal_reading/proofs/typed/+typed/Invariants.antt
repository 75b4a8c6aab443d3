use Rattle.std.proofs.Common.{◌≡◌, ◌+◌, ◌*◌, ◌-◌, length, map, drop, true}
use Rattle.literal_model.specs.Readings.{value_within, elements_on, members_on}
use Rattle.uno_entities.specs.TypeNames.{kind_of}
use Rattle.uno_values.specs.Values.{plain_of}
use Rattle.literal_reading.specs.Scanning.{all_placed}
use Rattle.literal_reading.specs.Typing.{kinds_at, with_firsts}
use Rattle.literal_reading.proofs.typed.+typed.Given as goal

abbrev pub decreases-value_within : goal.decreases-value_within
decreases-value_within l = 5 * l.levels

abbrev pub decreases-value_step : goal.decreases-value_step
decreases-value_step l = 5 * l.inner + 4

abbrev pub decreases-any_of : goal.decreases-any_of
decreases-any_of l = 5 * l.inner + 3

abbrev pub decreases-held_by : goal.decreases-held_by
decreases-held_by l = 5 * l.inner + 2

abbrev pub decreases-sequence_of : goal.decreases-sequence_of
decreases-sequence_of l = 5 * l.inner + 3

abbrev pub decreases-elements_of : goal.decreases-elements_of
decreases-elements_of l = 5 * l.inner + 2

abbrev pub decreases-elements_on : goal.decreases-elements_on
decreases-elements_on l = 5 * l.inner + 1

abbrev pub decreases-tuple_of : goal.decreases-tuple_of
decreases-tuple_of l = 5 * l.inner + 3

abbrev pub decreases-members_on : goal.decreases-members_on
decreases-members_on l = 5 * l.inner + 2

abbrev pub invariant-elements_on-loop : goal.invariant-elements_on-loop
invariant-elements_on-loop l =
    with_firsts (map plain_of l.elements.items) (elements_on (length l.tokens - l.counter) l.left (value_within l.inner l.registry (kind_of l.element)) (all_placed l.rest))
    ≡ with_firsts (map plain_of l.fn.elements.items) (elements_on (length (all_placed l.tokens)) l.left (value_within l.inner l.registry (kind_of l.element)) (all_placed l.tokens))

abbrev pub invariant-members_on-loop-field : goal.invariant-members_on-loop-field
invariant-members_on-loop-field l =
    with_firsts (map plain_of l.members.items) (members_on (value_within l.inner l.registry) l.left l.is_first (kinds_at (drop l.field-index l.fields)) (all_placed l.rest))
    ≡ with_firsts (map plain_of l.fn.members.items) (members_on (value_within l.inner l.registry) l.left true (kinds_at l.fields) (all_placed l.tokens))
