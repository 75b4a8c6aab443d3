use Rattle.std.specs.Prelude.{◌≡◌, ◌+◌, ◌*◌, ◌-◌, map, drop}
use Rattle.uno_types.specs.Members.{fields_at}
use Rattle.uno_entities.specs.TypeNames.{kind_of}
use Rattle.uno_values.specs.Values.{plain_of}
use Rattle.urp_model.specs.Reading.{elements_at, members_at, tuple_at, value_at}
use Rattle.urp_wire.specs.Gives.{tables_of}
use Rattle.urp_wire.proofs.Loops.{with_front}
use Rattle.urp_wire.proofs.read.value.+read.Given as goal

abbrev pub decreases-value_within : goal.decreases-value_within
decreases-value_within l = 6 * l.levels

abbrev pub decreases-level_of : goal.decreases-level_of
decreases-level_of l = 6 * l.levels + 5

abbrev pub decreases-any_value : goal.decreases-any_value
decreases-any_value l = 6 * l.levels + 1

abbrev pub decreases-tuple_value : goal.decreases-tuple_value
decreases-tuple_value l = 6 * l.levels + 3

abbrev pub decreases-tuple_of : goal.decreases-tuple_of
decreases-tuple_of l = 6 * l.levels + 2

abbrev pub decreases-members_of : goal.decreases-members_of
decreases-members_of l = 6 * l.levels + 1

abbrev pub decreases-sequence_value : goal.decreases-sequence_value
decreases-sequence_value l = 6 * l.levels + 4

abbrev pub decreases-list_value : goal.decreases-list_value
decreases-list_value l = 6 * l.levels + 3

abbrev pub decreases-elements_of : goal.decreases-elements_of
decreases-elements_of l = 6 * l.levels + 2

abbrev pub decreases-tuples_of : goal.decreases-tuples_of
decreases-tuples_of l = 6 * l.levels + 3

abbrev pub decreases-structs_of : goal.decreases-structs_of
decreases-structs_of l = 6 * l.levels + 4

abbrev pub decreases-others_of : goal.decreases-others_of
decreases-others_of l = 6 * l.levels + 1

-- what was read, before what is read next, is what is to be read
abbrev pub invariant-members_of-loop-field : goal.invariant-members_of-loop-field
invariant-members_of-loop-field l =
    with_front (map plain_of l.members.items) (members_at (value_at l.levels l.registry) (map (λ f. f.kind) (fields_at (drop l.field-index l.fields))) (tables_of l.caches) l.rest)
    ≡ members_at (value_at l.levels l.registry) (map (λ f. f.kind) (fields_at l.fields)) (tables_of l.fn.caches) l.bytes

abbrev pub invariant-tuples_of-loop-place : goal.invariant-tuples_of-loop-place
invariant-tuples_of-loop-place l =
    let one = tuple_at (value_at l.levels l.registry) (map (λ f. f.kind) (fields_at l.fields)) l.name in
    with_front (map plain_of l.elements.items) (elements_at one (l.count - l.place) (tables_of l.caches) l.rest) ≡ elements_at one l.count (tables_of l.fn.caches) l.bytes

abbrev pub invariant-others_of-loop-place : goal.invariant-others_of-loop-place
invariant-others_of-loop-place l =
    with_front (map plain_of l.elements.items) (elements_at (value_at l.levels l.registry (kind_of l.element)) (l.count - l.place) (tables_of l.caches) l.rest)
    ≡ elements_at (value_at l.levels l.registry (kind_of l.element)) l.count (tables_of l.fn.caches) l.bytes
