use Rattle.std.specs.Prelude.{◌≡◌, ◌↔◌, ◌+◌, ◌≤◌, length, map, drop, take}
use denote.Text.{Utf8}
use denote.Shadow.{shadow}
use Rattle.uno_model.specs.Fits.{FitAll, FitEach, member_kinds}
use Rattle.uno_model.specs.Registry.{members_within}
use Rattle.uno_entities.specs.TypeNames.{kind_of}
use Rattle.uno_values.specs.Fitting.{kinds_of}
use Rattle.uno_values.specs.Values.{plains_of}
use Rattle.uno_values.proofs.fitting.+fits.Given as goal

abbrev pub invariant-all_fit-loop-element : goal.invariant-all_fit-loop-element
invariant-all_fit-loop-element l =
    FitAll l.registry (plains_of (drop l.element-index l.elements)) (kind_of l.kind) ↔ FitAll l.registry (plains_of l.elements) (kind_of l.kind)

abbrev pub invariant-own_fit-loop-field : goal.invariant-own_fit-loop-field
invariant-own_fit-loop-field l =
    (l.place ≡ l.start + l.field-index)
    × (FitEach l.registry (plains_of (take (length (drop l.field-index l.fields)) (drop l.place l.members))) (kinds_of (drop l.field-index l.fields))
    ↔ FitEach l.registry (plains_of (take (length l.fields) (drop l.start l.members))) (kinds_of l.fields))

abbrev pub invariant-members_fit-loop-left : goal.invariant-members_fit-loop-left
invariant-members_fit-loop-left l =
    shadow (Utf8 l.at) × (l.end ≤ length l.members)
    × (FitEach l.registry (plains_of (take l.end l.members)) (map (λ f. f.kind) (members_within l.left l.registry l.at)) ↔ FitEach l.registry (plains_of l.members) (member_kinds l.registry l.name))

abbrev pub decreases-members_fit-loop-left : goal.decreases-members_fit-loop-left
decreases-members_fit-loop-left l = l.left
