-- Whether a name is a base, where it is not there, by its mark, and over levels.
use Rattle.std.proofs.Common.{◌≡◌, ◌≢◌, ℕ, zero, suc, ◌-◌, ◌<◌, Bool, true, false, ◌&&◌, ◌||◌, List, [], ◌∷◌, length}
use Rattle.std.proofs.Common.{map, get_or, Option, None, Some, refl, sym, ap, subst, ◌∙◌, inl, inr, arith}
use Rattle.std.specs.Prelude.{Contains, slice_get, ◌↔◌, IsTrue}
use Rattle.std.specs.List.{list_all, list_any}
use Rattle.std.specs.Str.{bytes_eq}
use Rattle.std.proofs.lemmas.Option.{slice_get-get_or}
use Rattle.std.proofs.lemmas.Slice.Eq.{bytes_eq-Decides}
use Rattle.uno_model.specs.Circles.{Leads, step, on}
use Rattle.uno_model.specs.Entities.{Entity, Base, Body, interface, struct, exception}
use Rattle.uno_entities.specs.Marks.{MarksBases}
use Rattle.uno_model.specs.Reaches.{reaches_within}
use Rattle.uno_model.specs.Registry.{find_entity, at_most_one, stands_on, stands_on_body, IsBaseOf}
use Rattle.uno_model.specs.Sound.{IsSound, is_there, is_interface, is_struct, is_exception, bases_known}
use Rattle.uno_model.proofs.CircleLaws.{all_at}
use Rattle.uno_model.proofs.PlaceLaws.{contains_cases, at_slice}
use Rattle.uno_model.proofs.ReachLaws.{found_place}
use Rattle.uno_model.proofs.ReachesLaws.{required_named}
use Rattle.uno_entities.proofs.SpreadLemmas.{entity_at}
use Rattle.uno_entities.specs.Finding.{IsPlaceOf, IsBaseAt}

-- one level, the last and any other
pub last_level : (levels : ℕ) (reg : List Entity) (to from : List ℕ) → levels ≡ 0 → reaches_within levels reg to from ≡ bytes_eq from to
unfolding reaches_within
last_level zero reg to from none = refl
last_level (suc levels) reg to from none = let bad : ⊥ = omega arith in absurd bad

pub one_level : (levels : ℕ) (reg : List Entity) (to from : List ℕ) → levels ≢ 0
    → reaches_within levels reg to from ≡ (bytes_eq from to || list_any (reaches_within (levels - 1) reg to) (stands_on reg from))
unfolding reaches_within
one_level zero reg to from some = absurd (some refl)
one_level (suc levels) reg to from some =
    let less : levels ≡ suc levels - 1 = omega arith in
    ap (λ n. bytes_eq from to || list_any (reaches_within n reg to) (stands_on reg from)) less

pub ruleset levels = (last_level, one_level)

-- both tests passed
both_passed : (a b : Bool) → (a && b) ≡ true → (a ≡ true) × (b ≡ true)
both_passed true b e = (refl, e)
both_passed false b e = let bad : false ≡ true = e in cc

-- a name that is not there is no entity of any kind
not_there : (reg : List Entity) (wanted : Body → Bool) (name : List ℕ) → is_there reg wanted name ≡ true → find_entity name reg ≡ None → ⊥
not_there reg wanted name there none =
    let fails : is_there reg wanted name ≡ false = rw none refl in
    let bad : false ≡ true = sym fails ∙ there in cc

-- the bases of an interface, each of them there
pub interfaces_there : (reg : List Entity) (bases : List Base) (name : List ℕ) → list_all (λ b. is_there reg is_interface b.name) bases ≡ true → Contains (map (λ b. b.name) bases) name
    → is_there reg is_interface name ≡ true
interfaces_there reg [] name all has = absurd (omega (arith, has.1))
interfaces_there reg (b ∷ bases) name all has =
    let parts = both_passed (is_there reg is_interface b.name) (list_all (λ x. is_there reg is_interface x.name) bases) all in
    elim (contains_cases b.name (map (λ x. x.name) bases) name has)
    [ inl here ↦ subst (λ n. is_there reg is_interface n ≡ true) here parts.0 | inr more ↦ interfaces_there reg bases name parts.1 more ]

-- what an entity stands on is there, where the names that it uses are known
body_stands : (reg : List Entity) (name : List ℕ) (published : Bool) (body : Body) (base : List ℕ) → bases_known reg body ≡ true
    → Contains (stands_on_body (Some (record { name = name; published = published; body = body }))) base → find_entity base reg ≡ None → ⊥
body_stands reg name published (interface bases members) base known has none =
    not_there reg is_interface base (interfaces_there reg bases base known (required_named bases base has)) none
body_stands reg name published (struct above members) base known has none =
    not_there reg is_struct base (all_at (is_there reg is_struct) (at_most_one above) base known has) none
body_stands reg name published (exception above members) base known has none =
    not_there reg is_exception base (all_at (is_there reg is_exception) (at_most_one above) base known has) none
body_stands reg name published body base known has none = absurd (omega (arith, has.1))

-- each name is known in an entity that is found
known_found : (reg : List Entity) (name : List ℕ) (e : Entity) → list_all (λ x. bases_known reg x.body) reg ≡ true → find_entity name reg ≡ Some e → bases_known reg e.body ≡ true
known_found reg name e known found =
    let place = found_place name reg e found in
    let at = at_slice reg place.0 e e place.1 in
    all_at (λ x. bases_known reg x.body) reg e known (place.0, at.0, at.1)

stands_there : (reg : List Entity) (name base : List ℕ) (o : Option Entity) → list_all (λ x. bases_known reg x.body) reg ≡ true → find_entity name reg ≡ o
    → Contains (stands_on_body o) base → find_entity base reg ≡ None → ⊥
stands_there reg name base None known is has none = absurd (omega (arith, has.1))
stands_there reg name base (Some e) known is has none = body_stands reg e.name e.published e.body base (known_found reg name e known is) has none

-- in a sound registry what a name leads to is there
led_there : (reg : List Entity) (a b : List ℕ) → list_all (λ x. bases_known reg x.body) reg ≡ true → Leads (stands_on reg) a b → find_entity b reg ≡ None → ⊥
led_there reg a b known (step from to has) none = stands_there reg from to (find_entity from reg) known refl has none
led_there reg a b known (on from next to has more) none = led_there reg next to known more none

-- what is not there is no base but of itself
pub absent_target : (reg : List Entity) (to from : List ℕ) → IsSound reg → find_entity to reg ≡ None → (bytes_eq from to ≡ true) ↔ IsBaseOf reg to from
absent_target reg to from sound none =
    (λ same. inl ((bytes_eq-Decides from to).0 same), λ base. elim base [ inl same ↦ (bytes_eq-Decides from to).1 same | inr way ↦ absurd (led_there reg from to sound.bases way none) ])

-- what is not there stands on nothing
nothing_on : (reg : List Entity) (name base : List ℕ) → find_entity name reg ≡ None → Contains (stands_on reg name) base → ⊥
nothing_on reg name base none has =
    let bad : Contains [] base = subst (λ e. Contains (stands_on_body e) base) none has in
    omega (arith, bad.1)

leads_nowhere : (reg : List Entity) (name base : List ℕ) → find_entity name reg ≡ None → Leads (stands_on reg) name base → ⊥
leads_nowhere reg name base none (step from to has) = nothing_on reg from to none has
leads_nowhere reg name base none (on from next to has way) = nothing_on reg from next none has

-- so it stands on itself alone
pub absent_source : (reg : List Entity) (to from : List ℕ) → find_entity from reg ≡ None → (bytes_eq from to ≡ true) ↔ IsBaseOf reg to from
absent_source reg to from none =
    (λ same. inl ((bytes_eq-Decides from to).0 same), λ base. elim base [ inl same ↦ (bytes_eq-Decides from to).1 same | inr way ↦ absurd (leads_nowhere reg from to none way) ])

-- the marks at the bases of what stands at a place
abbrev pub MarksAt : List Entity → ℕ → List Bool → Type 0
MarksAt reg source marks = (e : Entity) → slice_get reg source ≡ Some e → MarksBases reg e.name marks

-- each place has a mark
pub mark_there : (reg : List Entity) (source target : ℕ) (marks : List Bool) → source < length reg → target < length reg → MarksAt reg source marks → target < length marks
mark_there reg source target marks within below marked =
    let e = entity_at reg source within in
    omega (arith, below, (marked e.0 e.1).one_each)

-- the mark at a place says whether the entity there is a base
pub by_mark : (reg : List Entity) (source target : ℕ) (marks : List Bool) (mark : Bool) → source < length reg → target < length reg → MarksAt reg source marks
    → mark ≡ get_or marks target mark → IsBaseAt reg source target mark
by_mark reg source target marks mark within below marked is e f e_at f_at =
    let at : slice_get marks target ≡ Some mark =
    slice_get-get_or marks target mark (mark_there reg source target marks within below marked) ∙ ap (λ t. Some t) (sym is) in
    let both = (marked e e_at).marked target f f_at in
    (λ m. both.0 (at ∙ ap (λ t. Some t) m), λ base. same_mark mark true (sym at ∙ both.1 base))
  where
    same_mark : (a b : Bool) → Some a ≡ Some b → a ≡ b
    same_mark a b e = cc

-- what holds at the places of two names holds of the names
pub by_places : (reg : List Entity) (to from : List ℕ) (source target : ℕ) (test : Bool) → IsPlaceOf from reg source → IsPlaceOf to reg target
    → IsBaseAt reg source target test → (test ≡ true) ↔ IsBaseOf reg to from
by_places reg to from source target test above below holds =
    let e = entity_at reg source above.within in
    let f = entity_at reg target below.within in
    let e_named = (found_place from reg e.0 (above.found ∙ e.1)).2 in
    let f_named = (found_place to reg f.0 (below.found ∙ f.1)).2 in
    subst (λ n. (test ≡ true) ↔ IsBaseOf reg to n) e_named (subst (λ n. (test ≡ true) ↔ IsBaseOf reg n e.0.name) f_named (holds e.0 f.0 e.1 f.1))
