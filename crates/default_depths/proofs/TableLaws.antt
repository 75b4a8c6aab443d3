-- The table of depths in an order in which each struct stands behind those to which it leads.
use Rattle.std.proofs.Common.{◌≡◌, ℕ, zero, suc, ◌+◌, ◌<◌, ◌≤◌, true, false, List, [], ◌∷◌, length, map, take, get_or, Option, None, Some, refl, sym, ap, subst, ◌∙◌, inl, inr, arith}
use Rattle.std.specs.Prelude.{Contains, slice_get}
use Rattle.std.specs.List.{list_all}
use Rattle.std.proofs.lemmas.Bool.{and_parts}
use Rattle.std.proofs.lemmas.List.{length-map, take_all, take_more}
use Rattle.std.proofs.lemmas.List.Elements.{Contains-append_left, Contains-append_right, Contains-append_cases, Contains-push_cases}
use Rattle.circle_search.specs.Graph.{targets}
use Rattle.graph_order.specs.Order.{EndsFirst}
use Rattle.registry_rules.specs.Graphs.{rows_of}
use Rattle.registry_rules.proofs.WayLaws.{on_a_circle}
use Rattle.registry_text_model.specs.NoCircles.{led_on, leads_on, leads_on_to}
use Rattle.uno_model.specs.Circles.{Leads, step, on}
use Rattle.uno_model.specs.Entities.{Entity, Body, Field, interface, struct, exception, enum, constants, typedef, new_service, old_service, new_singleton, old_singleton}
use Rattle.uno_model.specs.Kinds.{Kind}
use Rattle.uno_model.specs.Kinds as kd
use Rattle.uno_model.specs.Places.{places_of}
use Rattle.uno_model.specs.Registry.{IsRising, find_entity, at_most_one, contained, struct_in, led_to, leads_to, leads_to_body, member_bases, own_members}
use Rattle.uno_model.specs.Sound.{IsSound, is_there, is_struct, bases_known, kind_known, elements_storable, is_storable, is_namable}
use Rattle.uno_model.specs.Types.{is_type, is_formed}
use Rattle.uno_model.specs.Uses.{value_kinds}
use Rattle.uno_model.proofs.CircleLaws.{all_at}
use Rattle.uno_model.proofs.MemberLaws.{nothing_in}
use Rattle.uno_model.proofs.PlaceLaws.{at_slice, contains_cases, contains_head, contains_behind, places_contain, named_there, place_is}
use Rattle.uno_model.proofs.ReachLaws.{found_place}
use Rattle.uno_model.proofs.UsedKindLaws.{found_entity, is_member, value_kinds_are}
use Rattle.uno_entities.specs.Entities.{field_of}
use Rattle.uno_entities.specs.Finding.{IsPlaceOf}
use Rattle.uno_entities.specs.TypeNames.{kind_of}
use Rattle.uno_entities.specs.declared.entity.Field as types
use Rattle.uno_entities.proofs.SpreadLemmas.{entity_at}
use Rattle.default_depths.specs.Depths.{depth_named, told, tuple_in, tuples_in}
use Rattle.default_depths.specs.Table.{AreKnown, AreTold, IsTold}

-- ---- structs among the members

abbrev kinds_of : List Field → List Kind
kinds_of fs = map (λ f. f.kind) fs

struct_is : (k : Kind) (n : List ℕ) → Contains (struct_in k) n → k ≡ kd.struct n
struct_is (kd.struct name) n has = elim (contains_cases name [] n has) [ inl here ↦ ap kd.struct here | inr behind ↦ absurd (nothing_in n behind) ]
struct_is k n has = absurd (nothing_in n has)

field_of_struct : (fs : List Field) (n : List ℕ) → Contains (contained fs) n → Contains (kinds_of fs) (kd.struct n)
field_of_struct [] n has = absurd (nothing_in n has)
field_of_struct (f ∷ fs) n has = elim (Contains-append_cases (struct_in f.kind) (contained fs) n has) [
  | inl here ↦ subst (λ k. Contains (f.kind ∷ kinds_of fs) k) (struct_is f.kind n here) (contains_head f.kind (kinds_of fs))
  | inr behind ↦ contains_behind f.kind (kinds_of fs) (kd.struct n) (field_of_struct fs n behind)
]

module _ (reg : List Entity) where
  -- no member is an exception, so each that has members of its own is a struct
  tuple_struct : (k : Kind) (n : List ℕ) → is_member reg k ≡ true → Contains (tuple_in k) n → Contains (struct_in k) n
  tuple_struct (kd.struct name) n is has = has
  tuple_struct (kd.exception name) n is has = let bad : false ≡ true = is in absurd cc
  tuple_struct k n is has = absurd (nothing_in n has)

  tuples_contained : (fs : List Field) (n : List ℕ) → list_all (is_member reg) (kinds_of fs) ≡ true → Contains (tuples_in fs) n → Contains (contained fs) n
  tuples_contained [] n all has = absurd (nothing_in n has)
  tuples_contained (f ∷ fs) n all has =
      let parts = and_parts (is_member reg f.kind) (list_all (is_member reg) (kinds_of fs)) all in
      elim (Contains-append_cases (tuple_in f.kind) (tuples_in fs) n has) [
        | inl here ↦ Contains-append_left (struct_in f.kind) (contained fs) n (tuple_struct f.kind n parts.0 here)
        | inr behind ↦ Contains-append_right (struct_in f.kind) (contained fs) n (tuples_contained fs n parts.1 behind)
      ]

  member_there : (n : List ℕ) → is_member reg (kd.struct n) ≡ true → is_there reg is_struct n ≡ true
  member_there n is =
      let k = kd.struct n in
      let type = (and_parts (is_storable k) (is_type reg k) is).1 in
      (and_parts (kind_known reg k) (elements_storable k) (and_parts (is_formed reg k) (is_namable k) type).0).0

  contained_there : (fs : List Field) (n : List ℕ) → list_all (is_member reg) (kinds_of fs) ≡ true → Contains (contained fs) n → is_there reg is_struct n ≡ true
  contained_there fs n all has = member_there n (all_at (is_member reg) (kinds_of fs) (kd.struct n) all (field_of_struct fs n has))

  there_is : (n : List ℕ) (e : Entity) → find_entity n reg ≡ Some e → is_there reg is_struct n ≡ is_struct e.body
  there_is n e found = rw found refl

  struct_leads : (body : Body) → is_struct body ≡ true → led_on reg body ≡ led_to body
  struct_leads (typedef k) is = let bad : false ≡ true = is in absurd cc
  struct_leads body is = refl

module _ (reg : List Entity) (rising : IsRising reg) (sound : IsSound reg) where
  -- ---- what a struct leads to

  abbrev AreMembers : List Field → Type 0
  AreMembers fs = list_all (is_member reg) (kinds_of fs) ≡ true

  own_are : (name : List ℕ) (e : Entity) (body : Body) → e.body ≡ body → find_entity name reg ≡ Some e
      → AreMembers (own_members (Some (record { name = e.name; published = e.published; body = body })))
  own_are name e (struct base members) is found = subst (λ b. list_all (is_member reg) (value_kinds b) ≡ true) is (value_kinds_are reg sound name e found)
  own_are name e (exception base members) is found = subst (λ b. list_all (is_member reg) (value_kinds b) ≡ true) is (value_kinds_are reg sound name e found)
  own_are name e body is found = refl

  abbrev LedToStructs : Body → Type 0
  LedToStructs body = (n : List ℕ) → Contains (led_to body) n → is_there reg is_struct n ≡ true

  leads_to_structs : (name : List ℕ) (e : Entity) (body : Body) → e.body ≡ body → find_entity name reg ≡ Some e → is_struct body ≡ true → LedToStructs body
  leads_to_structs name e (struct base members) is found s n has =
      let known : list_all (is_there reg is_struct) (at_most_one base) ≡ true = subst (λ b. bases_known reg b ≡ true) is (found_entity (λ d. bases_known reg d.body) name reg e sound.bases found).0 in
      elim (Contains-append_cases (at_most_one base) (contained members) n has) [
        | inl here ↦ all_at (is_there reg is_struct) (at_most_one base) n known here
        | inr here ↦ contained_there reg members n (own_are name e (struct base members) is found) here
      ]
  leads_to_structs name e (interface bs ms) is found s n has = let bad : false ≡ true = s in absurd cc
  leads_to_structs name e (exception b ms) is found s n has = let bad : false ≡ true = s in absurd cc
  leads_to_structs name e (enum items) is found s n has = let bad : false ≡ true = s in absurd cc
  leads_to_structs name e (constants cs) is found s n has = let bad : false ≡ true = s in absurd cc
  leads_to_structs name e (typedef k) is found s n has = let bad : false ≡ true = s in absurd cc
  leads_to_structs name e (new_service b cs) is found s n has = let bad : false ≡ true = s in absurd cc
  leads_to_structs name e (old_service ps) is found s n has = let bad : false ≡ true = s in absurd cc
  leads_to_structs name e (new_singleton b) is found s n has = let bad : false ≡ true = s in absurd cc
  leads_to_structs name e (old_singleton b) is found s n has = let bad : false ≡ true = s in absurd cc

  -- ---- a way on from a struct is over structs, and none of them is a typedef

  one_on : (a b : List ℕ) → is_there reg is_struct a ≡ true → Contains (leads_on_to reg a) b → Contains (leads_to reg a) b × (is_there reg is_struct b ≡ true)
  unfolding leads_on_to
  one_on a b there has = by_found (find_entity a reg) refl has
    where
      by_found : (o : Option Entity) → find_entity a reg ≡ o → Contains (leads_on reg o) b → Contains (leads_to reg a) b × (is_there reg is_struct b ≡ true)
      by_found None absent led = absurd (nothing_in b led)
      by_found (Some e) found led =
          let is : is_struct e.body ≡ true = sym (there_is reg a e found) ∙ there in
          let plain : Contains (led_to e.body) b = subst (λ ns. Contains ns b) (struct_leads reg e.body is) led in
          (subst (λ o. Contains (leads_to_body o) b) (sym found) plain, leads_to_structs a e e.body refl found is b plain)

  way_on : (a b : List ℕ) → is_there reg is_struct a ≡ true → Leads (leads_on_to reg) a b → Leads (leads_to reg) a b
  way_on a b there (step from to has) = step from to (one_on from to there has).0
  way_on a b there (on from next to has more) = let one = one_on from next there has in on from next to one.0 (way_on next to one.1 more)

  -- ---- what is told of a place is known of its name

  known_of : (depths : List ℕ) (name : List ℕ) (place : ℕ) → IsPlaceOf name reg place → is_there reg is_struct name ≡ true → IsTold reg depths place
      → get_or depths place 0 ≡ told (depth_named reg name)
  known_of depths name place at_name there is_told =
      let e = entity_at reg place at_name.within in
      let found = at_name.found ∙ e.1 in
      let same = (found_place name reg e.0 found).2 in
      subst (λ n. get_or depths place 0 ≡ told (depth_named reg n)) same (is_told e.0 e.1 (sym (there_is reg name e.0 found) ∙ there))

  row_of : (f : Entity → List ℕ) (es : List Entity) (i : ℕ) (e : Entity) → slice_get es i ≡ Some e → get_or (map f es) i [] ≡ f e
  row_of f [] i e at = let bad : None ≡ Some e = at in absurd cc
  row_of f (x ∷ xs) zero e at = let one : x ≡ e = cc in ap f one
  row_of f (x ∷ xs) (suc i) e at = row_of f xs i e at

  abbrev row : Entity → List ℕ
  row e = places_of reg (led_on reg e.body)

  module _ (order : List ℕ) (ends : EndsFirst (rows_of reg) order) where
    -- the depths of all structs of the first so many places are told
    abbrev ToldSoFar : List ℕ → ℕ → Type 0
    ToldSoFar depths i = (place : ℕ) → Contains (take i order) place → IsTold reg depths place

    -- so those to which the struct of the next place leads are known
    pub ready : (depths : List ℕ) (i : ℕ) → i < length order → ToldSoFar depths i → (e : Entity) → slice_get reg (get_or order i 0) ≡ Some e → is_struct e.body ≡ true
        → AreKnown reg depths (led_to e.body)
    unfolding targets
    ready depths i low before e at is name has place at_name =
        let node = get_or order i 0 in
        let found = named_there reg node e rising at in
        let there = leads_to_structs e.name e e.body refl found is name has in
        let f = entity_at reg place at_name.within in
        let number = place_is reg name place f.0 rising f.1 (at_name.found ∙ f.1) in
        let led : Contains (led_on reg e.body) name = subst (λ ns. Contains ns name) (sym (struct_leads reg e.body is)) has in
        let target : Contains (targets (rows_of reg) node) place = subst (λ r. Contains r place) (sym (row_of row reg node e at)) (places_contain reg (led_on reg e.body) name place led number) in
        let long = length-map reg row in
        let within = at_name.within in
        known_of depths name place at_name there (elim (ends.behind i place low (omega (arith, within, long)) target) [
          | inl taken ↦ before place taken
          | inr circle ↦ absurd (on_a_circle reg node e rising at (on node place node target circle) (λ way. sound.no_circle e.name (way_on e.name e.name (there_is reg e.name e found ∙ is) way)))
        ])

    -- with the next place
    pub told_more : (old new : List ℕ) (i place : ℕ) → i < length order → place ≡ get_or order i place → ToldSoFar old i → IsTold reg new place
        → ((p : ℕ) → IsTold reg old p → IsTold reg new p) → ToldSoFar new (i + 1)
    told_more old new i place low is before here kept p has =
        elim (Contains-push_cases (take i order) (get_or order i place) p (subst (λ ps. Contains ps p) (take_more order i place low) has)) [
          | inl taken ↦ kept p (before p taken)
          | inr same ↦ subst (IsTold reg new) (is ∙ same) here
        ]

    pub all_told : (depths : List ℕ) (i : ℕ) → length order ≤ i → length depths ≡ length reg → ToldSoFar depths i → AreTold reg depths
    all_told depths i end long before = record { long = long; told = each }
      where
        each : (place : ℕ) → IsTold reg depths place
        each place e at is =
            let low = (at_slice reg place e e at).0 in
            let rows = length-map reg row in
            before place (subst (λ ps. Contains ps place) (sym (take_all i order end)) (ends.all place (omega (arith, low, rows)))) e at is

  -- ---- what the depth of one asks

  -- of a struct, whose base and structs are known
  bases_led : (e : Entity) (body : Body) (n : List ℕ) → Contains (member_bases (Some (record { name = e.name; published = e.published; body = body }))) n → is_struct body ≡ true
      → Contains (led_to body) n
  bases_led e (struct base members) n has is = Contains-append_left (at_most_one base) (contained members) n has
  bases_led e (exception base members) n has is = has
  bases_led e body n has is = absurd (nothing_in n has)

  members_led : (e : Entity) (body : Body) (n : List ℕ) → AreMembers (own_members (Some (record { name = e.name; published = e.published; body = body })))
      → Contains (tuples_in (own_members (Some (record { name = e.name; published = e.published; body = body })))) n → is_struct body ≡ true → Contains (led_to body) n
  members_led e (struct base members) n are has is = Contains-append_right (at_most_one base) (contained members) n (tuples_contained reg members n are has)
  members_led e (exception base members) n are has is = let bad : false ≡ true = is in absurd cc
  members_led e body n are has is = absurd (nothing_in n has)

  pub bases_ready : (depths : List ℕ) (e : Entity) (o : Option Entity) → o ≡ Some e → is_struct e.body ≡ true → AreKnown reg depths (led_to e.body) → AreKnown reg depths (member_bases o)
  bases_ready depths e o is s known n has = known n (bases_led e e.body n (subst (λ p. Contains (member_bases p) n) is has) s)

  pub members_ready : (depths : List ℕ) (e : Entity) (o : Option Entity) → find_entity e.name reg ≡ Some e → o ≡ Some e → is_struct e.body ≡ true → AreKnown reg depths (led_to e.body)
      → AreKnown reg depths (tuples_in (own_members o))
  members_ready depths e o found is s known n has =
      known n (members_led e e.body n (own_are e.name e e.body refl found) (subst (λ p. Contains (tuples_in (own_members p)) n) is has) s)

  -- of any members, where all structs are told
  pub own_known : (depths : List ℕ) (e : Entity) (o : Option Entity) → AreTold reg depths → find_entity e.name reg ≡ Some e → o ≡ Some e → AreKnown reg depths (tuples_in (own_members o))
  own_known depths e o are found is n has place at_name =
      let members = own_members (Some e) in
      let own = own_are e.name e e.body refl found in
      let there = contained_there reg members n own (tuples_contained reg members n own (subst (λ p. Contains (tuples_in (own_members p)) n) is has)) in
      known_of depths n place at_name there (are.told place)

  -- of what a level declares
  pub level_known : (depths : List ℕ) (e : Entity) (name : List ℕ) (fs : List Field) → AreTold reg depths → find_entity e.name reg ≡ Some e → name ≡ e.name
      → fs ≡ own_members (find_entity name reg) → AreKnown reg depths (tuples_in fs)
  level_known depths e name fs are found same is n has =
      own_known depths e (find_entity name reg) are found (ap (λ m. find_entity m reg) same ∙ found) n (subst (λ ms. Contains (tuples_in ms) n) is has)

-- what is known of all members is known of each
pub member_known : (reg : List Entity) (depths : List ℕ) (fs : List types.Field) (i : ℕ) (f : types.Field) → i < length fs → f ≡ get_or fs i f
    → AreKnown reg depths (tuples_in (map field_of fs)) → AreKnown reg depths (tuple_in (kind_of f.kind))
member_known reg depths [] i f low is known = absurd (omega (arith, low))
member_known reg depths (x ∷ xs) zero f low is known = λ n has.
    known n (Contains-append_left (tuple_in (kind_of x.kind)) (tuples_in (map field_of xs)) n (subst (λ (y : types.Field). Contains (tuple_in (kind_of y.kind)) n) is has))
member_known reg depths (x ∷ xs) (suc i) f low is known =
    member_known reg depths xs i f (omega (arith, low)) is (λ n has. known n (Contains-append_right (tuple_in (kind_of x.kind)) (tuples_in (map field_of xs)) n has))
