-- Circles of names and circles of places are the same circles.
use Rattle.std.proofs.Common.{◌≡◌, ℕ, zero, suc, ◌<◌, true, false, List, [], ◌∷◌, ◌++◌, length, map, get_or, Option}
use Rattle.std.proofs.Common.{None, Some, refl, sym, ap, subst, ◌∙◌, if◌then◌else◌, ◌⊎◌, inl, inr, arith}
use Rattle.std.specs.Prelude.{Contains, slice_get}
use Rattle.std.specs.Str.{bytes_eq}
use Rattle.std.proofs.lemmas.Slice.Eq.{bytes_eq-Decides}
use Rattle.uno_model.specs.Circles.{Leads, step, on, HasNoCircle}
use Rattle.uno_model.specs.Entities.{Entity}
use Rattle.uno_model.specs.Places.{further, place_of, with_place, places_of, graph_of}
use Rattle.uno_model.specs.Registry.{IsRising, find_entity, leads_to, leads_to_body}
use Rattle.uno_model.proofs.ReachLaws.{chosen}
use Rattle.uno_model.proofs.FindLaws.{found_at, distinct_places}

-- what a list with a head contains is the head, or behind it
pub contains_cases : {X : Type 0} (y : X) (ys : List X) (x : X) → Contains (y ∷ ys) x → (y ≡ x) ⊎ Contains ys x
contains_cases y ys x (zero, within, is) = inl is
contains_cases y ys x (suc k, within, is) = inr (k, omega arith, is)

pub contains_head : {X : Type 0} (y : X) (ys : List X) → Contains (y ∷ ys) y
contains_head y ys = (0, omega arith, refl)

pub contains_behind : {X : Type 0} (y : X) (ys : List X) (x : X) → Contains ys x → Contains (y ∷ ys) x
contains_behind y ys x has = (suc has.0, omega (arith, has.1), has.2)

-- what stands at a place is within the list, at every default
pub at_slice : {X : Type 0} (xs : List X) (i : ℕ) (x d : X) → slice_get xs i ≡ Some x → (i < length xs) × (get_or xs i d ≡ x)
at_slice [] i x d e = let bad : None ≡ Some x = e in cc
at_slice (y ∷ ys) zero x d e = let same : y ≡ x = cc in (omega arith, same)
at_slice (y ∷ ys) (suc i) x d e = let behind = at_slice ys i x d e in (omega (arith, behind.0), behind.1)

-- what the entity of a name has, at its place
abbrev pub StandsAt : List ℕ → List Entity → ℕ → Type 0
StandsAt name reg i = (e : Entity) × (slice_get reg i ≡ Some e) × (find_entity name reg ≡ Some e) × (e.name ≡ name)

-- one entity further on
stands_further : (name : List ℕ) (x : Entity) (xs : List Entity) (o : Option ℕ) (i : ℕ) → ((k : ℕ) → o ≡ Some k → StandsAt name xs k)
    → further o ≡ Some i → bytes_eq name x.name ≡ false
    → StandsAt name (x ∷ xs) i
unfolding find_entity
stands_further name x xs None i behind moved other = let bad : None ≡ Some i = moved in cc
stands_further name x xs (Some k) i behind moved other =
    let there = behind k refl in
    let one : suc k ≡ i = cc in
    (there.0, ap (slice_get (x ∷ xs)) (sym one) ∙ there.1, rw other there.2, there.3)

stands_here : (name : List ℕ) (x : Entity) (xs : List Entity) (i : ℕ) → Some 0 ≡ Some i → bytes_eq name x.name ≡ true → StandsAt name (x ∷ xs) i
unfolding find_entity
stands_here name x xs i here same =
    let first : 0 ≡ i = cc in
    (x, ap (slice_get (x ∷ xs)) (sym first), rw same refl, sym ((bytes_eq-Decides name x.name).0 same))

-- the entity at a name's place is the one that is found
pub found_of_place : (name : List ℕ) (reg : List Entity) (i : ℕ) → place_of name reg ≡ Some i → StandsAt name reg i
unfolding place_of
found_of_place name [] i e = let bad : None ≡ Some i = e in cc
found_of_place name (x ∷ xs) i e =
    elim (chosen (bytes_eq name x.name) (Some 0) (further (place_of name xs)) (Some i) e)
    [ inl here ↦ stands_here name x xs i here.1 here.0 | inr behind ↦ stands_further name x xs (place_of name xs) i (λ k at. found_of_place name xs k at) behind.1 behind.0 ]

-- the entity that is found has its name's place
pub place_of_found : (name : List ℕ) (reg : List Entity) (e : Entity) → find_entity name reg ≡ Some e → (i : ℕ) × (place_of name reg ≡ Some i)
unfolding place_of find_entity
place_of_found name [] e found = let bad : None ≡ Some e = found in cc
place_of_found name (x ∷ xs) e found =
    elim (chosen (bytes_eq name x.name) (Some x) (find_entity name xs) (Some e) found)
    [ inl here ↦ (0, rw here.0 refl) | inr behind ↦ moved (place_of_found name xs e behind.1) behind.0 ]
  where
    moved : (i : ℕ) × (place_of name xs ≡ Some i) → bytes_eq name x.name ≡ false → (i : ℕ) × ((if bytes_eq name x.name then Some 0 else further (place_of name xs)) ≡ Some i)
    moved place other = (suc place.0, rw other (ap further place.1))

-- a name among names that has this place
abbrev pub HasPlace : List Entity → List (List ℕ) → ℕ → Type 0
HasPlace reg names p = (n : List ℕ) × Contains names n × (place_of n reg ≡ Some p)

-- one name further on
place_further : (reg : List Entity) (name : List ℕ) (names : List (List ℕ)) (p : ℕ) → HasPlace reg names p → HasPlace reg (name ∷ names) p
place_further reg name names p found = (found.0, contains_behind name names found.0 found.1, found.2)

place_cases : (reg : List Entity) (name : List ℕ) (names : List (List ℕ)) (p : ℕ) (o : Option ℕ) → place_of name reg ≡ o → (Contains (places_of reg names) p → HasPlace reg names p)
    → Contains (with_place o (places_of reg names)) p → HasPlace reg (name ∷ names) p
place_cases reg name names p None at behind has = place_further reg name names p (behind has)
place_cases reg name names p (Some i) at behind has =
    elim (contains_cases i (places_of reg names) p has)
    [ inl here ↦ (name, contains_head name names, at ∙ ap (λ k. Some k) here) | inr later ↦ place_further reg name names p (behind later) ]

-- the places of names are theirs
pub contains_places : (reg : List Entity) (names : List (List ℕ)) (p : ℕ) → Contains (places_of reg names) p → HasPlace reg names p
contains_places reg [] p has = absurd (omega (arith, has.1))
contains_places reg (name ∷ names) p has = place_cases reg name names p (place_of name reg) refl (λ later. contains_places reg names p later) has

same_place : (i p : ℕ) → Some i ≡ Some p → i ≡ p
same_place i p e = cc

contain_cases : (reg : List Entity) (name : List ℕ) (names : List (List ℕ)) (n : List ℕ) (p : ℕ) (o : Option ℕ) → place_of name reg ≡ o → place_of n reg ≡ Some p
    → (Contains names n → Contains (places_of reg names) p) → (name ≡ n) ⊎ Contains names n → Contains (with_place o (places_of reg names)) p
contain_cases reg name names n p None none at behind (inl same) = let bad : None ≡ Some p = sym none ∙ ap (λ m. place_of m reg) same ∙ at in cc
contain_cases reg name names n p None none at behind (inr later) = behind later
contain_cases reg name names n p (Some i) some at behind (inl same) =
    let here = same_place i p (sym some ∙ ap (λ m. place_of m reg) same ∙ at) in
    subst (Contains (i ∷ places_of reg names)) here (contains_head i (places_of reg names))
contain_cases reg name names n p (Some i) some at behind (inr later) = contains_behind i (places_of reg names) p (behind later)

pub places_contain : (reg : List Entity) (names : List (List ℕ)) (n : List ℕ) (p : ℕ) → Contains names n → place_of n reg ≡ Some p → Contains (places_of reg names) p
places_contain reg [] n p has at = absurd (omega (arith, has.1))
places_contain reg (name ∷ names) n p has at = contain_cases reg name names n p (place_of name reg) refl at (λ later. places_contain reg names n p later at) (contains_cases name names n has)

-- a row of the graph is the places to which the entity leads
row_of : (f : Entity → List ℕ) (reg : List Entity) (i : ℕ) (e : Entity) → slice_get reg i ≡ Some e → get_or (map f reg) i [] ≡ f e
row_of f [] i e at = let bad : None ≡ Some e = at in cc
row_of f (x ∷ xs) zero e at = let one : x ≡ e = cc in ap f one
row_of f (x ∷ xs) (suc i) e at = row_of f xs i e at

-- a row that has something is an entity's
row_there : (f : Entity → List ℕ) (reg : List Entity) (i j : ℕ) → Contains (get_or (map f reg) i []) j → (e : Entity) × (slice_get reg i ≡ Some e)
row_there f [] i j has = absurd (omega (arith, has.1))
row_there f (x ∷ xs) zero j has = (x, refl)
row_there f (x ∷ xs) (suc i) j has = row_there f xs i j has

-- where a place leads, by the graph
abbrev pub steps : List Entity → ℕ → List ℕ
steps reg i = get_or (graph_of reg) i []

-- a step from name to name is one from place to place
step_places : (reg : List Entity) (a b : List ℕ) (i j : ℕ) → Contains (leads_to reg a) b → place_of a reg ≡ Some i → place_of b reg ≡ Some j → Contains (steps reg i) j
step_places reg a b i j has at_a at_b =
    let there = found_of_place a reg i at_a in
    let e = there.0 in
    let names = leads_to_body (Some e) in
    let from : Contains names b = subst (λ o. Contains (leads_to_body o) b) there.2 has in
    subst (λ row. Contains row j) (sym (row_of (λ x. places_of reg (leads_to_body (Some x))) reg i e there.1)) (places_contain reg names b j from at_b)

-- what has a step is there
step_there : (reg : List Entity) (a b : List ℕ) (o : Option Entity) → find_entity a reg ≡ o → Contains (leads_to_body o) b → (i : ℕ) × (place_of a reg ≡ Some i)
step_there reg a b None is has = absurd (omega (arith, has.1))
step_there reg a b (Some e) is has = place_of_found a reg e is

leads_there : (reg : List Entity) (a b : List ℕ) → Leads (leads_to reg) a b → (i : ℕ) × (place_of a reg ≡ Some i)
leads_there reg a b (step from to has) = step_there reg from to (find_entity from reg) refl has
leads_there reg a b (on from next to has more) = step_there reg from next (find_entity from reg) refl has

-- a way of names is a way of places
pub leads_places : (reg : List Entity) (a b : List ℕ) (i j : ℕ) → Leads (leads_to reg) a b → place_of a reg ≡ Some i → place_of b reg ≡ Some j → Leads (steps reg) i j
leads_places reg a b i j (step from to has) at_a at_b = step i j (step_places reg from to i j has at_a at_b)
leads_places reg a b i j (on from next to has more) at_a at_b =
    let mid = leads_there reg next to more in
    on i mid.0 j (step_places reg from next i mid.0 has at_a mid.1) (leads_places reg next to mid.0 j more mid.1 at_b)

-- an entity is found by its name
pub named_there : (reg : List Entity) (i : ℕ) (e : Entity) → IsRising reg → slice_get reg i ≡ Some e → find_entity e.name reg ≡ Some e
named_there reg i e rising at =
    let there = at_slice reg i e e at in
    found_at e.name reg i e rising there.0 (ap (λ (x : Entity). x.name) there.1) ∙ ap (λ x. Some x) there.1

-- a step from place to place is one from name to name
step_names : (reg : List Entity) (i j : ℕ) (e f : Entity) → IsRising reg → slice_get reg i ≡ Some e → slice_get reg j ≡ Some f
    → Contains (steps reg i) j → Contains (leads_to reg e.name) f.name
step_names reg i j e f rising at_i at_j has =
    let row = row_of (λ x. places_of reg (leads_to_body (Some x))) reg i e at_i in
    let found = contains_places reg (leads_to_body (Some e)) j (subst (λ r. Contains r j) row has) in
    let there = found_of_place found.0 reg j found.2 in
    let one : there.0 ≡ f = same_entity there.0 f (sym there.1 ∙ at_j) in
    let name : found.0 ≡ f.name = sym there.3 ∙ ap (λ (x : Entity). x.name) one in
    subst (λ n. Contains (leads_to reg e.name) n) name (subst (λ o. Contains (leads_to_body o) found.0) (sym (named_there reg i e rising at_i)) found.1)
  where
    same_entity : (x y : Entity) → Some x ≡ Some y → x ≡ y
    same_entity x y e = cc

-- a way of places is a way of names
pub leads_names : (reg : List Entity) (i j : ℕ) (e f : Entity) → IsRising reg → slice_get reg i ≡ Some e → slice_get reg j ≡ Some f
    → Leads (steps reg) i j → Leads (leads_to reg) e.name f.name
leads_names reg i j e f rising at_i at_j (step from to has) = step e.name f.name (step_names reg from to e f rising at_i at_j has)
leads_names reg i j e f rising at_i at_j (on from next to has more) =
    let mid = place_there reg next to more in
    on e.name mid.0.name f.name (step_names reg from next e mid.0 rising at_i mid.1 has) (leads_names reg next to mid.0 f rising mid.1 at_j more)
  where
    place_there : (r : List Entity) (k l : ℕ) → Leads (steps r) k l → (g : Entity) × (slice_get r k ≡ Some g)
    place_there r k l (step a b has) = row_there (λ x. places_of r (leads_to_body (Some x))) r a b has
    place_there r k l (on a b d has more) = row_there (λ x. places_of r (leads_to_body (Some x))) r a b has

first_there : (reg : List Entity) (i j : ℕ) → Leads (steps reg) i j → (e : Entity) × (slice_get reg i ≡ Some e)
first_there reg i j (step a b has) = row_there (λ x. places_of reg (leads_to_body (Some x))) reg a b has
first_there reg i j (on a b d has more) = row_there (λ x. places_of reg (leads_to_body (Some x))) reg a b has

-- there is no circle of names where there is none of places, and the other way round
pub no_circle_names : (reg : List Entity) → HasNoCircle (steps reg) → HasNoCircle (leads_to reg)
no_circle_names reg none a circle = let there = leads_there reg a a circle in none there.0 (leads_places reg a a there.0 there.0 circle there.1 there.1)

pub no_circle_places : (reg : List Entity) → IsRising reg → HasNoCircle (leads_to reg) → HasNoCircle (steps reg)
no_circle_places reg rising none i circle = let there = first_there reg i i circle in none there.0.name (leads_names reg i i there.0 there.0 rising there.1 there.1 circle)

-- the places of more names stand behind
pub places_of-append : (reg : List Entity) (ns ms : List (List ℕ)) → places_of reg (ns ++ ms) ≡ places_of reg ns ++ places_of reg ms
places_of-append reg [] ms = refl
places_of-append reg (n ∷ ns) ms = by_place (place_of n reg) (places_of-append reg ns ms)
  where
    by_place : (o : Option ℕ) → places_of reg (ns ++ ms) ≡ places_of reg ns ++ places_of reg ms
        → with_place o (places_of reg (ns ++ ms)) ≡ with_place o (places_of reg ns) ++ places_of reg ms
    by_place None e = e
    by_place (Some i) e = ap (λ ps. i ∷ ps) e

-- the places of one name
pub places_of_one : (reg : List Entity) (n : List ℕ) (o : Option ℕ) → place_of n reg ≡ o → places_of reg (n ∷ []) ≡ with_place o []
places_of_one reg n o e = ap (λ p. with_place p []) e

-- where names rise, the place where a name's entity stands is the name's
pub place_is : (reg : List Entity) (name : List ℕ) (i : ℕ) (e : Entity) → IsRising reg → slice_get reg i ≡ Some e → find_entity name reg ≡ Some e → place_of name reg ≡ Some i
place_is reg name i e rising at found =
    let place = place_of_found name reg e found in
    let there = found_of_place name reg place.0 place.1 in
    let same : there.0 ≡ e = one_entity there.0 e (sym there.2 ∙ found) in
    place.1 ∙ ap (λ k. Some k) (distinct_places reg rising place.0 i there.0 e there.1 at (ap (λ (x : Entity). x.name) same))
  where
    one_entity : (x y : Entity) → Some x ≡ Some y → x ≡ y
    one_entity x y e = cc

-- a name that is not there has no place
pub place_none : (reg : List Entity) (name : List ℕ) → find_entity name reg ≡ None → place_of name reg ≡ None
place_none reg name absent = by_place (place_of name reg) refl
  where
    by_place : (o : Option ℕ) → place_of name reg ≡ o → place_of name reg ≡ None
    by_place None e = e
    by_place (Some i) e = let there = found_of_place name reg i e in absurd (differs there.0 (sym absent ∙ there.2))
      where
        differs : (x : Entity) → None ≡ Some x → ⊥
        differs x bad = cc
