use Rattle.std.specs.Prelude.{◌≡◌, drop}
use Rattle.uno_entities.specs.TypeNames.{kind_of}
use Rattle.urp_model.specs.Namings.{namings_each, namings_all}
use Rattle.uno_values.specs.Fitting.{kinds_at}
use Rattle.uno_values.specs.Values.{plains_of}
use Rattle.bridge_tables.specs.Counted.{counted, with_stubs}
use Rattle.bridge_tables.proofs.counting.+count.Given as goal

-- the rest counts what all count, and nothing but the stubs has changed
abbrev pub invariant-count_all-loop-element : goal.invariant-count_all-loop-element
invariant-count_all-loop-element l =
    (counted (namings_all l.registry (plains_of (drop l.element-index l.elements)) (kind_of l.kind)) l.objects ≡ counted (namings_all l.registry (plains_of l.elements) (kind_of l.kind)) l.fn.objects)
    × (with_stubs l.fn.objects.stubs l.objects ≡ l.fn.objects)

abbrev pub invariant-count_each-loop-place : goal.invariant-count_each-loop-place
invariant-count_each-loop-place l =
    (counted (namings_each l.registry (plains_of (drop l.place l.members)) (kinds_at (drop l.place l.fields))) l.objects ≡ counted (namings_each l.registry (plains_of l.members) (kinds_at l.fields)) l.fn.objects)
    × (with_stubs l.fn.objects.stubs l.objects ≡ l.fn.objects)
