-- Ways over bases, contained structs and typedefs, by names and by places.
use Rattle.std.proofs.Common.{◌≡◌, ℕ, zero, suc, List, [], ◌∷◌, ◌++◌, map, get_or, Option, None, Some, refl, sym, ap, subst, ◌∙◌, arith}
use Rattle.std.specs.Prelude.{Contains, slice_get}
use Rattle.uno_model.specs.Circles.{Leads, step, on}
use Rattle.uno_model.specs.Entities.{Entity}
use Rattle.uno_model.specs.Kinds.{Kind}
use Rattle.uno_model.specs.Kinds as kd
use Rattle.uno_model.specs.Places.{place_of, places_of}
use Rattle.uno_model.specs.Registry.{IsRising, find_entity}
use Rattle.uno_model.proofs.PlaceLaws.{at_slice, found_of_place, place_of_found, contains_places, places_contain, named_there, place_is}
use Rattle.entity_rules.proofs.GraphLemmas.{written_more}
use Rattle.uno_entities.specs.TypeNames.{innermost}
use Rattle.circle_search.specs.Graph.{targets, IsFirstOnCircle}
use Rattle.registry_text_model.specs.NoCircles.{names_in, led_on, leads_on, leads_on_to, IsOnNoCircle}
use Rattle.registry_rules.specs.First.{IsFirst, AllKeep}
use Rattle.registry_rules.specs.Graphs.{rows_of, word_names}

-- the name in a type is that of the one below all sequences
pub names_innermost : (k : Kind) → names_in k ≡ word_names (innermost k)
names_innermost (kd.sequence k) = names_innermost k
names_innermost _ = refl

row_of : (f : Entity → List ℕ) (reg : List Entity) (i : ℕ) (e : Entity) → slice_get reg i ≡ Some e → get_or (map f reg) i [] ≡ f e
row_of f [] i e at = let bad : None ≡ Some e = at in cc
row_of f (x ∷ xs) zero e at = let one : x ≡ e = cc in ap f one
row_of f (x ∷ xs) (suc i) e at = row_of f xs i e at

row_there : (f : Entity → List ℕ) (reg : List Entity) (i j : ℕ) → Contains (get_or (map f reg) i []) j → (e : Entity) × (slice_get reg i ≡ Some e)
row_there f [] i j has = absurd (omega (arith, has.1))
row_there f (x ∷ xs) zero j has = (x, refl)
row_there f (x ∷ xs) (suc i) j has = row_there f xs i j has

-- where a place leads
abbrev steps : List Entity → ℕ → List ℕ
steps reg i = get_or (rows_of reg) i []

abbrev row : List Entity → Entity → List ℕ
row reg e = places_of reg (led_on reg e.body)

step_places : (reg : List Entity) (a b : List ℕ) (i j : ℕ) → Contains (leads_on_to reg a) b → place_of a reg ≡ Some i → place_of b reg ≡ Some j → Contains (steps reg i) j
unfolding leads_on_to
step_places reg a b i j has at_a at_b =
    let there = found_of_place a reg i at_a in
    let e = there.0 in
    let from : Contains (led_on reg e.body) b = subst (λ o. Contains (leads_on reg o) b) there.2 has in
    subst (λ r. Contains r j) (sym (row_of (row reg) reg i e there.1)) (places_contain reg (led_on reg e.body) b j from at_b)

step_there : (reg : List Entity) (a b : List ℕ) (o : Option Entity) → find_entity a reg ≡ o → Contains (leads_on reg o) b → (i : ℕ) × (place_of a reg ≡ Some i)
step_there reg a b None is has = absurd (omega (arith, has.1))
step_there reg a b (Some e) is has = place_of_found a reg e is

leads_there : (reg : List Entity) (a b : List ℕ) → Leads (leads_on_to reg) a b → (i : ℕ) × (place_of a reg ≡ Some i)
unfolding leads_on_to
leads_there reg a b (step from to has) = step_there reg from to (find_entity from reg) refl has
leads_there reg a b (on from next to has more) = step_there reg from next (find_entity from reg) refl has

-- a way of names is a way of places
pub leads_places : (reg : List Entity) (a b : List ℕ) (i j : ℕ) → Leads (leads_on_to reg) a b → place_of a reg ≡ Some i → place_of b reg ≡ Some j → Leads (steps reg) i j
leads_places reg a b i j (step from to has) at_a at_b = step i j (step_places reg from to i j has at_a at_b)
leads_places reg a b i j (on from next to has more) at_a at_b =
    let mid = leads_there reg next to more in
    on i mid.0 j (step_places reg from next i mid.0 has at_a mid.1) (leads_places reg next to mid.0 j more mid.1 at_b)

same_entity : (x y : Entity) → Some x ≡ Some y → x ≡ y
same_entity x y e = cc

-- a step from place to place is one from name to name
step_names : (reg : List Entity) (i j : ℕ) (e f : Entity) → IsRising reg → slice_get reg i ≡ Some e → slice_get reg j ≡ Some f
    → Contains (steps reg i) j → Contains (leads_on_to reg e.name) f.name
unfolding leads_on_to
step_names reg i j e f rising at_i at_j has =
    let found = contains_places reg (led_on reg e.body) j (subst (λ r. Contains r j) (row_of (row reg) reg i e at_i) has) in
    let there = found_of_place found.0 reg j found.2 in
    let one : there.0 ≡ f = same_entity there.0 f (sym there.1 ∙ at_j) in
    let name : found.0 ≡ f.name = sym there.3 ∙ ap (λ (x : Entity). x.name) one in
    let at_found : Contains (leads_on reg (find_entity e.name reg)) found.0 = subst (λ o. Contains (leads_on reg o) found.0) (sym (named_there reg i e rising at_i)) found.1 in
    subst (λ n. Contains (leads_on reg (find_entity e.name reg)) n) name at_found

pub place_there : (reg : List Entity) (i j : ℕ) → Leads (steps reg) i j → (e : Entity) × (slice_get reg i ≡ Some e)
place_there reg i j (step a b has) = row_there (row reg) reg a b has
place_there reg i j (on a b d has more) = row_there (row reg) reg a b has

-- a way of places is a way of names
pub leads_names : (reg : List Entity) (i j : ℕ) (e f : Entity) → IsRising reg → slice_get reg i ≡ Some e → slice_get reg j ≡ Some f
    → Leads (steps reg) i j → Leads (leads_on_to reg) e.name f.name
leads_names reg i j e f rising at_i at_j (step from to has) = step e.name f.name (step_names reg from to e f rising at_i at_j has)
leads_names reg i j e f rising at_i at_j (on from next to has more) =
    let mid = place_there reg next to more in
    on e.name mid.0.name f.name (step_names reg from next e mid.0 rising at_i mid.1 has) (leads_names reg next to mid.0 f rising mid.1 at_j more)

-- an entity at a place is on a circle where its place is
pub on_a_circle : (reg : List Entity) (i : ℕ) (e : Entity) → IsRising reg → slice_get reg i ≡ Some e → Leads (steps reg) i i → ¬ IsOnNoCircle reg e
on_a_circle reg i e rising at way none = none (leads_names reg i i e e rising at at way)

pub on_no_circle : (reg : List Entity) (i : ℕ) (e : Entity) → IsRising reg → slice_get reg i ≡ Some e → ¬ Leads (steps reg) i i → IsOnNoCircle reg e
on_no_circle reg i e rising at none way =
    let place = place_is reg e.name i e rising at (named_there reg i e rising at) in
    none (leads_places reg e.name e.name i i way place place)

-- what the search of the graph says of the entities
pub none_on_a_circle : (reg : List Entity) (graph : List (List ℕ)) → IsRising reg → graph ≡ rows_of reg → ((i : ℕ) → ¬ Leads (targets graph) i i) → AllKeep reg (IsOnNoCircle reg)
unfolding targets
none_on_a_circle reg graph rising is none i e at =
    on_no_circle reg i e rising at (subst (λ g. ¬ Leads (λ n. get_or g n []) i i) is (none i))

pub first_on_circle_is : (reg : List Entity) (graph : List (List ℕ)) (place : ℕ) → IsRising reg → graph ≡ rows_of reg → IsFirstOnCircle graph place → IsFirst reg (IsOnNoCircle reg) place
unfolding targets
first_on_circle_is reg graph place rising is first =
    let way : Leads (steps reg) place place = subst (λ g. Leads (λ n. get_or g n []) place place) is first.circle in
    let there = place_there reg place place way in
    record {
      within = (at_slice reg place there.0 there.0 there.1).0;
      broken = λ e at. on_a_circle reg place e rising at way;
      before = λ i e low at. on_no_circle reg i e rising at (subst (λ g. ¬ Leads (λ n. get_or g n []) i i) is (first.first i low));
    }

-- the places of names, and of more names behind them
pub both_written : (reg : List Entity) (old row after : List ℕ) (ns ms : List (List ℕ)) → row ≡ old ++ places_of reg ns → after ≡ row ++ places_of reg ms
    → after ≡ old ++ places_of reg (ns ++ ms)
both_written reg old row after ns ms first second = written_more reg old row after ns ms (ns ++ ms) first second refl
