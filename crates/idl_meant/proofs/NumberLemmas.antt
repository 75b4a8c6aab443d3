-- What is known of numbers, of what calls give.
use Rattle.std.proofs.Common.{◌≡◌, ◌∙◌, ◌==◌, ℕ, List, length, get_or, map, Option, None, subst}
use Rattle.idl_meaning_model.specs.ConstantsMeant.{value_meant}
use Rattle.idl_meaning_model.specs.Declarations.{Valued, all_valued}
use Rattle.idl_meant.specs.Numbering.{NumbersMeant}
use Rattle.idl_meant.specs.Resolving.{AreTold, all_in}
use Rattle.idl_meant.specs.Starting.{starts_of}
use Rattle.idl_meant.specs.declared.numbers.Numbers.{Numbers}
use Rattle.idl_model.specs.Places.{Place}
use Rattle.idl_names.specs.Standing.{AreOnce}
use Rattle.idl_names.specs.declared.declaration.Declared.{Declared}
use Rattle.idl_names.specs.declared.resolving.Resolved.{Resolved}
use Rattle.idl_types.specs.Bodies.{bodies_of}
use Rattle.idl_values.specs.Graph.{AreKnown, AreLow, StandInOrder, places_from}
use Rattle.idl_values.specs.Origins.{all_origins, origins_of}
use Rattle.idl_values.specs.Places.{first_place, known_by}
use Rattle.idl_values.specs.Told.{number_told}
use Rattle.idl_values.specs.declared.origins.Origin.{Origin}
use Rattle.idl_values.proofs.OrderLemmas.{stand_in_order}
use Rattle.idl_values.proofs.ToldLemmas.{are_known, are_low}

pub numbers_are : (r : Resolved) (it : AreTold r) (numbers : Numbers) (once : AreOnce r.paths) (told : Place → Option ℕ) → ((p : Place) → told p ≡ number_told r.names.items p) → (table : List (Option ℕ))
    → ((n : ℕ) → get_or table n None ≡ first_place (λ m. m == n) r.opened.values.items) → (origins : List Origin) → origins_of origins ≡ all_origins (all_valued (all_in r))
    → numbers.graph ≡ places_from (known_by told table) 0 (origins_of origins)
    → ((vs : List Valued) → origins_of origins ≡ all_origins vs → AreKnown vs (known_by told table) → AreLow vs (known_by told table) → StandInOrder vs → numbers.values.items ≡ map (value_meant vs) vs)
    → (all : List Declared) → all ≡ r.declared.items → numbers.starts.items ≡ starts_of (bodies_of all) (length all) → NumbersMeant r numbers
numbers_are r it numbers once told same table noted origins are graph values all same_all starts =
    let vs = all_valued (all_in r) in
    let known = are_known r.paths (all_in r) once it.identifiers r.opened.values.items it.opened.values table noted r.names.items told same it.names it.right it.apart it.known in
    let low = are_low r.paths (all_in r) once it.identifiers r.opened.values.items it.opened.values table noted told in
    let order = stand_in_order (all_in r) it.values_apart in
    record {
      graph = record { known = known_by told table; are_known = known; are_low = low; in_order = order; graph_is = graph ∙ (λ i. places_from (known_by told table) 0 (are i)) };
      starts = subst (λ xs. numbers.starts.items ≡ starts_of (bodies_of xs) (length xs)) same_all starts;
      values = values vs are known low order;
    }
