-- The rows of the graph of places, written name by name.
use Rattle.std.proofs.Common.{◌≡◌, ℕ, ◌+◌, ◌<◌, List, [], ◌∷◌, ◌++◌, length, map, take, get_or, refl, sym, ap, subst, ◌∙◌, append_assoc}
use Rattle.std.specs.Prelude.{Bool, IsTrue, ◌↔◌}
use Rattle.std.proofs.lemmas.List.{map_more, flat_map_more, map-append}
use Rattle.uno_model.specs.Entities.{Entity}
use Rattle.uno_model.specs.Places.{places_of, graph_of}
use Rattle.uno_model.specs.Registry.{IsRising, contained, struct_in, leads_to}
use Rattle.uno_model.proofs.PlaceLaws.{places_of-append, place_is, place_none, no_circle_names, no_circle_places}
use Rattle.uno_model.specs.Circles.{HasNoCircle}
use Rattle.circle_search.specs.Graph.{targets}
use Rattle.uno_entities.specs.Finding.{IsPlaceOf, IsGapOf}
use Rattle.uno_entities.specs.declared.entity.Base as types_base
use Rattle.uno_entities.specs.declared.entity.Field as types_field
use Rattle.uno_entities.specs.Entities.{base_of, field_of}
use Rattle.uno_entities.proofs.SpreadLemmas.{entity_at}

-- the one place of a name that is there, and of one that is not
pub place_written : (reg : List Entity) (name : List ℕ) (i : ℕ) → IsRising reg → IsPlaceOf name reg i → places_of reg (name ∷ []) ≡ i ∷ []
place_written reg name i rising place = let here = entity_at reg i place.within in rw (place_is reg name i here.0 rising here.1 (place.found ∙ here.1)) refl

pub no_place_written : (reg : List Entity) (name : List ℕ) (i : ℕ) → IsGapOf name reg i → places_of reg (name ∷ []) ≡ []
no_place_written reg name i gap = rw (place_none reg name gap.absent) refl

-- a row that was written so far, and one name's places
pub written_more : (reg : List Entity) (old row after : List ℕ) (ns ms all : List (List ℕ)) → row ≡ old ++ places_of reg ns → after ≡ row ++ places_of reg ms
    → all ≡ ns ++ ms
    → after ≡ old ++ places_of reg all
written_more reg old row after ns ms all p q r =
    q ∙ ap (λ x. x ++ places_of reg ms) p ∙ append_assoc old (places_of reg ns) (places_of reg ms)
    ∙ ap (λ x. old ++ x) (sym (places_of-append reg ns ms) ∙ ap (places_of reg) (sym r))

-- the names of the bases, one further
pub base_names_step : (bases : List types_base.Base) (i : ℕ) (b : types_base.Base) → i < length bases → b ≡ get_or bases i b
    → map (λ x. x.name) (map base_of (take (i + 1) bases)) ≡ map (λ x. x.name) (map base_of (take i bases)) ++ b.name ∷ []
base_names_step bases i b within is =
    ap (map (λ x. x.name)) (map_more base_of bases i b within ∙ ap (λ x. map base_of (take i bases) ++ base_of x ∷ []) (sym is))
    ∙ map-append (λ x. x.name) (map base_of (take i bases)) (base_of b ∷ [])

-- the structs that members are, one member further
pub contained_step : (fields : List types_field.Field) (i : ℕ) (f : types_field.Field) → i < length fields → f ≡ get_or fields i f
    → contained (map field_of (take (i + 1) fields)) ≡ contained (map field_of (take i fields)) ++ struct_in (field_of f).kind
contained_step fields i f within is =
    ap contained (map_more field_of fields i f within ∙ ap (λ x. map field_of (take i fields) ++ field_of x ∷ []) (sym is))
    ∙ sym (flat_map_more (λ x. struct_in x.kind) [] (map field_of (take i fields)) (field_of f))

-- what a search of the graph of places says of names
pub circles_of_graph : (reg : List Entity) (graph : List (List ℕ)) (b : Bool) → IsRising reg → graph ≡ graph_of reg → (IsTrue b ↔ HasNoCircle (targets graph))
    → IsTrue b ↔ HasNoCircle (leads_to reg)
unfolding targets
circles_of_graph reg graph b rising is searched =
    let here : IsTrue b ↔ HasNoCircle (targets (graph_of reg)) = subst (λ g. IsTrue b ↔ HasNoCircle (targets g)) is searched in
    (λ t. no_circle_names reg (here.0 t), λ none. here.1 (no_circle_places reg rising none))
