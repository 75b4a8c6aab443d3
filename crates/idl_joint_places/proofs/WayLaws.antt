-- Ways over bases, contained structs and typedefs: a name leads back to itself exactly where its place does.
use Rattle.std.proofs.Common.{◌≡◌, refl, subst, ℕ, List, Option, None, Some, Contains, arith}
use Rattle.uno_model.specs.Circles.{Leads, step, on}
use Rattle.uno_model.specs.Entities.{Entity}
use Rattle.uno_model.specs.Places.{place_of}
use Rattle.uno_model.specs.Registry.{IsRising, find_entity}
use Rattle.uno_model.proofs.PlaceLaws.{found_of_place, place_of_found}
use Rattle.circle_search.specs.Graph.{targets}
use Rattle.registry_text_model.specs.NoCircles.{leads_on, leads_on_to}
use Rattle.registry_rules.proofs.WayLaws.{leads_names, leads_places}
use Rattle.registry_rules.specs.Graphs.{rows_of}

module _ (reg : List Entity) where
  named_from : (a b : List ℕ) (o : Option Entity) → find_entity a reg ≡ o → Contains (leads_on reg o) b → (i : ℕ) × (place_of a reg ≡ Some i)
  named_from a b None is has = absurd (omega (arith, has.1))
  named_from a b (Some e) is has = place_of_found a reg e is

  -- what leads anywhere has a place
  pub has_place : (a b : List ℕ) → Leads (leads_on_to reg) a b → (i : ℕ) × (place_of a reg ≡ Some i)
  unfolding leads_on_to
  has_place a b (step x y has) = named_from a b (find_entity a reg) refl has
  has_place a b (on x c y has rest) = named_from a c (find_entity a reg) refl has

  pub back_of_name : (name : List ℕ) (i : ℕ) → place_of name reg ≡ Some i → Leads (leads_on_to reg) name name → Leads (targets (rows_of reg)) i i
  unfolding targets
  back_of_name name i at way = leads_places reg name name i i way at at

  pub back_by_place : (name : List ℕ) (i : ℕ) → place_of name reg ≡ Some i → IsRising reg → Leads (targets (rows_of reg)) i i → Leads (leads_on_to reg) name name
  unfolding targets
  back_by_place name i at rising way =
      let there = found_of_place name reg i at in
      subst (λ n. Leads (leads_on_to reg) n n) there.3 (leads_names reg i i there.0 there.0 rising there.1 there.1 way)
