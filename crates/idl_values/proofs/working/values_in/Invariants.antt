use Rattle.std.proofs.Common.{◌≡◌, List, take}
use Rattle.idl_meaning_model.specs.Declarations.{Valued}
use Rattle.idl_values.specs.Graph.{AreKnown, AreLow, StandInOrder}
use Rattle.idl_values.specs.Known.{AreWorked}
use Rattle.idl_values.specs.Origins.{all_origins, origins_of}
use Rattle.idl_values.specs.Places.{known_by}
use Rattle.idl_values.specs.Told.{number_at}
use Rattle.idl_values.proofs.working.values_in.Given as goal

abbrev pub invariant-loop-place : goal.invariant-loop-place
invariant-loop-place l = (vs : List Valued) → origins_of l.origins ≡ all_origins vs → AreKnown vs (known_by (number_at l.told.numbers) l.table) → AreLow vs (known_by (number_at l.told.numbers) l.table)
    → StandInOrder vs → AreWorked vs (take l.place-index l.order) l.values.items
