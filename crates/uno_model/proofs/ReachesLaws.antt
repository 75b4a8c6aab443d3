-- What is reached over as many levels as there are entities is a base, and each base is reached.
use Rattle.std.proofs.Common.{◌≡◌, ℕ, zero, suc, Bool, true, false, ◌||◌, List, [], ◌∷◌, length, map, filter, not}
use Rattle.std.proofs.Common.{if◌then◌else◌, Option, None, Some, refl, ap, subst, ◌∙◌, ◌⊎◌, inl, inr, arith}
use Rattle.std.specs.Prelude.{Contains, ◌↔◌}
use Rattle.std.specs.List.{list_any}
use Rattle.std.specs.Str.{bytes_eq}
use Rattle.std.proofs.lemmas.List.{length-map, get_or-map}
use Rattle.std.proofs.lemmas.List.Elements.{Contains-append_left}
use Rattle.std.proofs.lemmas.Slice.Eq.{bytes_eq-Decides}
use Rattle.uno_model.specs.Circles.{Leads, step, on, HasNoCircle, ends_within}
use Rattle.uno_model.specs.Entities.{Entity, Base, Body, interface, struct, exception}
use Rattle.uno_model.specs.Reaches.{reaches_within}
use Rattle.uno_model.specs.Registry.{find_entity, mandatory_bases, at_most_one, contained, stands_on, stands_on_body, leads_to, leads_to_body, IsBaseOf}
use Rattle.uno_model.proofs.CircleLaws.{next_ends, none_ends_at_once, no_circle_ends}
use Rattle.uno_model.proofs.FindLaws.{same_equal}
use Rattle.uno_model.proofs.PlaceLaws.{contains_cases, contains_head, contains_behind, at_slice}
use Rattle.uno_model.proofs.ReachLaws.{found_place}

-- which of two tests passed
one_passed : (a b : Bool) → (a || b) ≡ true → (a ≡ true) ⊎ (b ≡ true)
one_passed true b e = inl refl
one_passed false b e = inr e

second_passed : (a b : Bool) → b ≡ true → (a || b) ≡ true
second_passed true b e = refl
second_passed false b e = e

-- an element of a list that passes a test
abbrev pub Passing : {X : Type 0} → (X → Bool) → List X → Type 0
Passing {X = X} p xs = (x : X) × Contains xs x × (p x ≡ true)

-- where a test finds something, it is there
pub passing : {X : Type 0} (p : X → Bool) (xs : List X) → list_any p xs ≡ true → Passing p xs
passing p [] e = let bad : false ≡ true = e in cc
passing p (x ∷ xs) e = elim (one_passed (p x) (list_any p xs) e) [ inl here ↦ (x, contains_head x xs, here) | inr behind ↦ later p x xs (passing p xs behind) ]
  where
    later : {X : Type 0} (q : X → Bool) (y : X) (ys : List X) → Passing q ys → Passing q (y ∷ ys)
    later q y ys found = (found.0, contains_behind y ys found.0 found.1, found.2)

pub passes : {X : Type 0} (p : X → Bool) (xs : List X) (x : X) → Contains xs x → p x ≡ true → list_any p xs ≡ true
passes p [] x has is = absurd (omega (arith, has.1))
passes p (y ∷ ys) x has is =
    elim (contains_cases y ys x has) [ inl here ↦ rw (ap p here ∙ is) refl | inr behind ↦ second_passed (p y) (list_any p ys) (passes p ys x behind is) ]

-- a base of what a name stands on is a base of the name
pub base_of_base : (reg : List Entity) (to from next : List ℕ) → Contains (stands_on reg from) next → IsBaseOf reg to next → IsBaseOf reg to from
base_of_base reg to from next has (inl same) = inr (step from to (subst (Contains (stands_on reg from)) same has))
base_of_base reg to from next has (inr way) = inr (on from next to has way)

-- what is reached is a base
pub reached_is_base : (levels : ℕ) (reg : List Entity) (to from : List ℕ) → reaches_within levels reg to from ≡ true → IsBaseOf reg to from
unfolding reaches_within
reached_is_base zero reg to from e = inl ((bytes_eq-Decides from to).0 e)
reached_is_base (suc levels) reg to from e =
    elim (one_passed (bytes_eq from to) (list_any (reaches_within levels reg to) (stands_on reg from)) e) [
      | inl same ↦ inl ((bytes_eq-Decides from to).0 same)
      | inr any ↦
          let next = passing (reaches_within levels reg to) (stands_on reg from) any in
          base_of_base reg to from next.0 next.1 (reached_is_base levels reg to next.0 next.2)
    ]

-- a base is reached over as many levels as the ways from a name may have steps
itself : (levels : ℕ) (reg : List Entity) (name : List ℕ) → reaches_within levels reg name name ≡ true
unfolding reaches_within
itself zero reg name = same_equal name
itself (suc levels) reg name = rw (same_equal name) refl

by_next : (levels : ℕ) (reg : List Entity) (to from next : List ℕ) → Contains (stands_on reg from) next → reaches_within levels reg to next ≡ true
    → reaches_within (suc levels) reg to from ≡ true
unfolding reaches_within
by_next levels reg to from next has reached =
    second_passed (bytes_eq from to) (list_any (reaches_within levels reg to) (stands_on reg from)) (passes (reaches_within levels reg to) (stands_on reg from) next has reached)

led_is_reached : (levels : ℕ) (reg : List Entity) (to from : List ℕ) → ends_within (stands_on reg) (suc levels) from ≡ true
    → Leads (stands_on reg) from to → reaches_within levels reg to from ≡ true
led_is_reached zero reg to from ends (step a b has) = absurd (none_ends_at_once (stands_on reg) b (next_ends (stands_on reg) zero a b ends has))
led_is_reached zero reg to from ends (on a c b has more) = absurd (none_ends_at_once (stands_on reg) c (next_ends (stands_on reg) zero a c ends has))
led_is_reached (suc levels) reg to from ends (step a b has) = by_next levels reg b a b has (itself levels reg b)
led_is_reached (suc levels) reg to from ends (on a c b has more) =
    by_next levels reg b a c has (led_is_reached levels reg b c (next_ends (stands_on reg) (suc levels) a c ends has) more)

pub base_is_reached : (levels : ℕ) (reg : List Entity) (to from : List ℕ) → ends_within (stands_on reg) (suc levels) from ≡ true
    → IsBaseOf reg to from → reaches_within levels reg to from ≡ true
base_is_reached levels reg to from ends (inl same) = subst (λ n. reaches_within levels reg n from ≡ true) same (itself levels reg from)
base_is_reached levels reg to from ends (inr way) = led_is_reached levels reg to from ends way

-- what is required is among the bases
pub required_named : (bases : List Base) (name : List ℕ) → Contains (mandatory_bases bases) name → Contains (map (λ b. b.name) bases) name
required_named [] name has = has
required_named (b ∷ bases) name has = by_test (not b.optional) has (required_named bases name)
  where
    by_test : (t : Bool) → Contains (map (λ x. x.name) (if t then b ∷ filter (λ x. not x.optional) bases else filter (λ x. not x.optional) bases)) name
        → (Contains (mandatory_bases bases) name → Contains (map (λ x. x.name) bases) name) → Contains (map (λ x. x.name) (b ∷ bases)) name
    by_test true it behind = elim (contains_cases b.name (mandatory_bases bases) name it) [
      | inl here ↦ subst (Contains (map (λ x. x.name) (b ∷ bases))) here (contains_head b.name (map (λ x. x.name) bases))
      | inr more ↦ contains_behind b.name (map (λ x. x.name) bases) name (behind more)
    ]
    by_test false it behind = contains_behind b.name (map (λ x. x.name) bases) name (behind it)

-- what an entity stands on, it leads to
body_leads : (name : List ℕ) (published : Bool) (body : Body) (base : List ℕ) → Contains (stands_on_body (Some (record { name = name; published = published; body = body }))) base
    → Contains (leads_to_body (Some (record { name = name; published = published; body = body }))) base
body_leads name published (interface bases members) base has = required_named bases base has
body_leads name published (struct above members) base has = Contains-append_left (at_most_one above) (contained members) base has
body_leads name published (exception above members) base has = has
body_leads name published body base has = absurd (omega (arith, has.1))

stands_leads : (reg : List Entity) (name base : List ℕ) → Contains (stands_on reg name) base → Contains (leads_to reg name) base
stands_leads reg name base has = of_found (find_entity name reg) has
  where
    of_found : (o : Option Entity) → Contains (stands_on_body o) base → Contains (leads_to_body o) base
    of_found None it = it
    of_found (Some e) it = body_leads e.name e.published e.body base it

pub ways_lead : (reg : List Entity) (a b : List ℕ) → Leads (stands_on reg) a b → Leads (leads_to reg) a b
ways_lead reg a b (step from to has) = step from to (stands_leads reg from to has)
ways_lead reg a b (on from next to has more) = on from next to (stands_leads reg from next has) (ways_lead reg next to more)

-- what stands on something has its name among those of the entities
found_named : (reg : List Entity) (name : List ℕ) (e : Entity) → find_entity name reg ≡ Some e → Contains (map (λ x. x.name) reg) name
found_named reg name e found =
    let place = found_place name reg e found in
    let at = at_slice reg place.0 e e place.1 in
    (place.0, omega (arith, at.0, length-map reg (λ (x : Entity). x.name)), get_or-map (λ (x : Entity). x.name) reg place.0 e name at.0 ∙ ap (λ (x : Entity). x.name) at.1 ∙ place.2)

standing_named : (reg : List Entity) (name base : List ℕ) (o : Option Entity) → find_entity name reg ≡ o → Contains (stands_on_body o) base → Contains (map (λ x. x.name) reg) name
standing_named reg name base None is has = absurd (omega (arith, has.1))
standing_named reg name base (Some e) is has = found_named reg name e is

-- without a circle no way over bases has more steps than there are entities
pub bases_end : (reg : List Entity) (name : List ℕ) → HasNoCircle (leads_to reg) → ends_within (stands_on reg) (suc (length reg)) name ≡ true
bases_end reg name none =
    no_circle_ends (stands_on reg) (length reg) (map (λ x. x.name) reg) name (λ a circle. none a (ways_lead reg a a circle)) (length-map reg (λ (x : Entity). x.name))
    (λ b on_way c has. standing_named reg b c (find_entity b reg) refl has)

-- so what is reached over as many levels as there are entities are the bases
pub reaches_bases : (count : ℕ) (reg : List Entity) (to from : List ℕ) → HasNoCircle (leads_to reg) → length reg ≡ count
    → (reaches_within count reg to from ≡ true) ↔ IsBaseOf reg to from
reaches_bases count reg to from none long =
    (reached_is_base count reg to from, λ base. subst (λ n. reaches_within n reg to from ≡ true) long (base_is_reached (length reg) reg to from (bases_end reg from none) base))
