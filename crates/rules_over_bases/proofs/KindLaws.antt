-- Where bases are of their kind, the names over bases are those of the functions of an interface, and of the members of a struct or an exception.
use Rattle.std.proofs.Common.{◌≡◌, ℕ, zero, suc, ◌+◌, Bool, true, false, List, [], ◌∷◌, ◌++◌, length, map, Option, None, Some, refl, sym, ap, subst, ◌∙◌, if◌then◌else◌, ◌⊎◌, inl, inr, arith, append-nil}
use Rattle.std.specs.Prelude.{Contains}
use Rattle.std.specs.List.{flat_map, list_all}
use Rattle.std.proofs.lemmas.List.{map-append}
use Rattle.std.proofs.lemmas.List.Concat.{flat_map-append}
use Rattle.std.proofs.lemmas.List.Folds.{list_all-map}
use Rattle.uno_model.specs.Circles.{Leads, step, on, HasNoCircle, ends_within}
use Rattle.uno_model.specs.Entities.{Entity, Body, Member, Field, attribute, method, interface, struct, exception, enum, constants, typedef, new_service, old_service, new_singleton, old_singleton}
use Rattle.uno_model.specs.Functions.{Function, getter, setter, accessors_of, calls_of, declared_by, declared_in, is_met, visit, visit_all, interfaces_of, functions_of}
use Rattle.uno_model.specs.Registry.{find_entity, at_most_one, stands_on, stands_on_body, leads_to, own_members, member_bases, all_members}
use Rattle.uno_model.specs.Sound.{is_there, is_interface, is_struct, is_exception, bases_known, all_differ}
use Rattle.uno_model.proofs.CircleLaws.{none_ends_at_once, next_ends, all_at}
use Rattle.uno_model.proofs.MemberLaws.{base_leads, all_ways_end, all_members_are}
use Rattle.uno_model.proofs.PlaceLaws.{contains_head, contains_behind}
use Rattle.uno_model.proofs.ReachesLaws.{required_named}
use Rattle.uno_model.proofs.UsedKindLaws.{found_entity}
use Rattle.uno_model.proofs.VisitLaws.{visit_is, interfaces_are_bases}
use Rattle.entity_rules.specs.NearMembers.{carries}
use Rattle.registry_text_model.specs.NamesDiffer.{all_names_differ}
use Rattle.rules_over_bases.specs.Climbing.{bases_in}
use Rattle.rules_over_bases.specs.Known.{names_at, names_over}
use Rattle.rules_over_bases.specs.OwnNames.{getter_name, setter_name, names_of_member, own_names}
use Rattle.rules_over_bases.specs.Occurring.{occurs}
use Rattle.rules_over_bases.proofs.TwinLaws.{occurs_append, same_differ}

-- bases are of their kind
abbrev pub AllKnown : List Entity → Type 0
AllKnown reg = list_all (λ e. bases_known reg e.body) reg ≡ true

-- ---- what is there

found_there : (reg : List Entity) (wanted : Body → Bool) (name : List ℕ) → is_there reg wanted name ≡ true → (e : Entity) × (find_entity name reg ≡ Some e) × (wanted e.body ≡ true)
found_there reg wanted name is = by_found (find_entity name reg) refl
  where
    by_found : (o : Option Entity) → find_entity name reg ≡ o → (e : Entity) × (find_entity name reg ≡ Some e) × (wanted e.body ≡ true)
    by_found None found = let told : is_there reg wanted name ≡ false = rw found refl in let bad : false ≡ true = sym told ∙ is in absurd cc
    by_found (Some e) found = let told : is_there reg wanted name ≡ wanted e.body = rw found refl in (e, found, sym told ∙ is)

is_there_found : (reg : List Entity) (wanted : Body → Bool) (name : List ℕ) (e : Entity) → find_entity name reg ≡ Some e → wanted e.body ≡ true → is_there reg wanted name ≡ true
is_there_found reg wanted name e found is = rw found is

known_of : (reg : List Entity) (name : List ℕ) (e : Entity) → AllKnown reg → find_entity name reg ≡ Some e → bases_known reg e.body ≡ true
known_of reg name e known found = (found_entity (λ d. bases_known reg d.body) name reg e known found).0

-- ---- interfaces

-- what is required is an interface
required_are : (reg : List Entity) (o : Option Entity) (e : Entity) (body : Body) (b : List ℕ) → is_interface body ≡ true → bases_known reg body ≡ true
    → Contains (stands_on_body (Some (record { name = e.name; published = e.published; body = body }))) b → is_there reg is_interface b ≡ true
required_are reg o e (interface bases members) b is known has =
    all_at (is_there reg is_interface) (map (λ x. x.name) bases) b (list_all-map (is_there reg is_interface) (λ x. x.name) bases ∙ known) (required_named bases b has)
required_are reg o e body b is known has = let bad : false ≡ true = is in absurd cc

base_is_interface : (reg : List Entity) (name b : List ℕ) → AllKnown reg → is_there reg is_interface name ≡ true → Contains (stands_on reg name) b → is_there reg is_interface b ≡ true
base_is_interface reg name b known is has =
    let found = found_there reg is_interface name is in
    required_are reg None found.0 found.0.body b found.2 (known_of reg name found.0 known found.1) (subst (λ o. Contains (stands_on_body o) b) found.1 has)

led_to_interface : (reg : List Entity) (name b : List ℕ) → AllKnown reg → is_there reg is_interface name ≡ true → Leads (stands_on reg) name b → is_there reg is_interface b ≡ true
led_to_interface reg name b known is (step from to has) = base_is_interface reg from to known is has
led_to_interface reg name b known is (on from next to has more) = led_to_interface reg next to known (base_is_interface reg from next known is has) more

met_is_interface : (reg : List Entity) (name b : List ℕ) → AllKnown reg → is_there reg is_interface name ≡ true → Contains (interfaces_of reg name) b → is_there reg is_interface b ≡ true
met_is_interface reg name b known is has = elim (interfaces_are_bases reg name b has) [
  | inl same ↦ subst (λ n. is_there reg is_interface n ≡ true) same is
  | inr way ↦ led_to_interface reg name b known is way
]

-- the names of functions
abbrev called : List Function → List (List ℕ)
called = map (λ f. f.name)

member_counted : (asked owner : List ℕ) (m : Member) → occurs asked (names_of_member m) ≡ occurs asked (called (accessors_of owner m)) + occurs asked (called (calls_of owner m))
unfolding occurs getter_name setter_name
member_counted asked owner (attribute a) = by_test a.read_only
  where
    by_test : (ro : Bool) → occurs asked (if ro then getter_name a.name ∷ [] else getter_name a.name ∷ (setter_name a.name ∷ []))
        ≡ occurs asked (called (if ro then getter owner a ∷ [] else getter owner a ∷ (setter owner a ∷ []))) + 0
    by_test true = omega arith
    by_test false = omega arith
member_counted asked owner (method m) = omega arith

members_counted : (asked owner : List ℕ) (ms : List Member)
    → occurs asked (flat_map names_of_member ms) ≡ occurs asked (called (flat_map (accessors_of owner) ms)) + occurs asked (called (flat_map (calls_of owner) ms))
unfolding occurs
members_counted asked owner [] = refl
members_counted asked owner (m ∷ ms) =
    let rest = members_counted asked owner ms in
    let here = member_counted asked owner m in
    let all = occurs_append asked (names_of_member m) (flat_map names_of_member ms) in
    let gets = ap (occurs asked) (map-append (λ (f : Function). f.name) (accessors_of owner m) (flat_map (accessors_of owner) ms)) in
    let got = occurs_append asked (called (accessors_of owner m)) (called (flat_map (accessors_of owner) ms)) in
    let calls = ap (occurs asked) (map-append (λ (f : Function). f.name) (calls_of owner m) (flat_map (calls_of owner) ms)) in
    let made = occurs_append asked (called (calls_of owner m)) (called (flat_map (calls_of owner) ms)) in
    omega (arith, rest, here, all, gets, got, calls, made)

body_counted : (asked owner : List ℕ) (body : Body) → is_interface body ≡ true → occurs asked (own_names body) ≡ occurs asked (called (declared_in owner body))
body_counted asked owner (interface bases members) is =
    let all = ap (occurs asked) (map-append (λ (f : Function). f.name) (flat_map (accessors_of owner) members) (flat_map (calls_of owner) members)) in
    let sum = occurs_append asked (called (flat_map (accessors_of owner) members)) (called (flat_map (calls_of owner) members)) in
    omega (arith, all, sum, members_counted asked owner members)
body_counted asked owner body is = let bad : false ≡ true = is in absurd cc

owner_counted : (asked : List ℕ) (reg : List Entity) (owner : List ℕ) → is_there reg is_interface owner ≡ true
    → occurs asked (names_at (find_entity owner reg)) ≡ occurs asked (called (declared_by owner (find_entity owner reg)))
owner_counted asked reg owner is =
    let found = found_there reg is_interface owner is in
    ap (λ o. occurs asked (names_at o)) found.1 ∙ body_counted asked owner found.0.body found.2 ∙ sym (ap (λ o. occurs asked (called (declared_by owner o))) found.1)

owners_counted : (asked : List ℕ) (reg : List Entity) (owners : List (List ℕ)) → ((o : List ℕ) → Contains owners o → is_there reg is_interface o ≡ true)
    → occurs asked (flat_map (λ n. names_at (find_entity n reg)) owners) ≡ occurs asked (called (flat_map (λ o. declared_by o (find_entity o reg)) owners))
unfolding occurs
owners_counted asked reg [] each = refl
owners_counted asked reg (o ∷ os) each =
    let rest = owners_counted asked reg os (λ n has. each n (contains_behind o os n has)) in
    let here = owner_counted asked reg o (each o (contains_head o os)) in
    let all = occurs_append asked (names_at (find_entity o reg)) (flat_map (λ n. names_at (find_entity n reg)) os) in
    let parts = ap (occurs asked) (map-append (λ (f : Function). f.name) (declared_by o (find_entity o reg)) (flat_map (λ n. declared_by n (find_entity n reg)) os)) in
    let sum = occurs_append asked (called (declared_by o (find_entity o reg))) (called (flat_map (λ n. declared_by n (find_entity n reg)) os)) in
    omega (arith, rest, here, all, parts, sum)

interface_names : (reg : List Entity) (name : List ℕ) → AllKnown reg → is_there reg is_interface name ≡ true
    → all_differ (names_over reg name) ≡ all_differ (map (λ f. f.name) (functions_of reg name))
unfolding names_over
interface_names reg name known is =
    same_differ (names_over reg name) (called (functions_of reg name)) (λ asked. owners_counted asked reg (interfaces_of reg name) (λ o has. met_is_interface reg name o known is has))

-- ---- structs and exceptions

-- a body that carries members stands on its base, has members from it, and declares its own names
carrier_stands : (e : Entity) (body : Body) → carries body ≡ true → stands_on_body (Some (record { name = e.name; published = e.published; body = body })) ≡ bases_in body
carrier_stands e (struct base members) is = refl
carrier_stands e (exception base members) is = refl
carrier_stands e body is = let bad : false ≡ true = is in absurd cc

pub carrier_bases : (e : Entity) (body : Body) → carries body ≡ true → member_bases (Some (record { name = e.name; published = e.published; body = body })) ≡ bases_in body
carrier_bases e (struct base members) is = refl
carrier_bases e (exception base members) is = refl
carrier_bases e body is = let bad : false ≡ true = is in absurd cc

carrier_names : (e : Entity) (body : Body) → carries body ≡ true → map (λ f. f.name) (own_members (Some (record { name = e.name; published = e.published; body = body }))) ≡ own_names body
carrier_names e (struct base members) is = refl
carrier_names e (exception base members) is = refl
carrier_names e body is = let bad : false ≡ true = is in absurd cc

-- it has one base at most
pub one_base : (body : Body) → (bases_in body ≡ []) ⊎ ((b : List ℕ) × (bases_in body ≡ b ∷ []))
one_base (struct None members) = inl refl
one_base (struct (Some b) members) = inr (b, refl)
one_base (exception None members) = inl refl
one_base (exception (Some b) members) = inr (b, refl)
one_base body = inl refl

-- what stands on nothing has its own names, and what stands on one base those of that before its own
pub names_alone : (reg : List Entity) (name : List ℕ) → HasNoCircle (leads_to reg) → stands_on reg name ≡ [] → names_over reg name ≡ names_at (find_entity name reg)
unfolding names_over is_met visit_all
names_alone reg name none stands =
    let met : interfaces_of reg name ≡ name ∷ [] = visit_is reg [] name none ∙ ap (λ bs. visit_all (visit reg) [] bs ++ name ∷ []) stands in
    ap (flat_map (λ n. names_at (find_entity n reg))) met ∙ append-nil (names_at (find_entity name reg))

pub names_behind : (reg : List Entity) (name b : List ℕ) → HasNoCircle (leads_to reg) → stands_on reg name ≡ b ∷ []
    → names_over reg name ≡ names_over reg b ++ names_at (find_entity name reg)
unfolding names_over is_met visit_all
names_behind reg name b none stands =
    let met : interfaces_of reg name ≡ interfaces_of reg b ++ name ∷ [] = visit_is reg [] name none ∙ ap (λ bs. visit_all (visit reg) [] bs ++ name ∷ []) stands in
    let rows = λ (n : List ℕ). names_at (find_entity n reg) in
    ap (flat_map rows) met ∙ flat_map-append rows (interfaces_of reg b) (name ∷ []) ∙ ap (λ l. flat_map rows (interfaces_of reg b) ++ l) (append-nil (rows name))

-- a kind of entities that carry members, whose bases are of that kind too
pub record IsCarrierKind (reg : List Entity) (wanted : Body → Bool) : Type 0 where
  pub carrier : (body : Body) → wanted body ≡ true → carries body ≡ true
  pub bases : (body : Body) (b : List ℕ) → wanted body ≡ true → bases_known reg body ≡ true → bases_in body ≡ b ∷ [] → is_there reg wanted b ≡ true

first_passes : (test : List ℕ → Bool) (bases : List (List ℕ)) (b : List ℕ) → list_all test bases ≡ true → bases ≡ b ∷ [] → test b ≡ true
first_passes test bases b all is = all_at test bases b all (subst (λ l. Contains l b) (sym is) (contains_head b []))

pub structs_carry : (reg : List Entity) → IsCarrierKind reg is_struct
structs_carry reg = record { carrier = carrier; bases = bases }
  where
    carrier : (body : Body) → is_struct body ≡ true → carries body ≡ true
    carrier (struct base members) is = refl
    carrier body is = let bad : false ≡ true = is in absurd cc

    bases : (body : Body) (b : List ℕ) → is_struct body ≡ true → bases_known reg body ≡ true → bases_in body ≡ b ∷ [] → is_there reg is_struct b ≡ true
    bases (struct base members) b is known has = first_passes (is_there reg is_struct) (at_most_one base) b known has
    bases body b is known has = let bad : false ≡ true = is in absurd cc

pub exceptions_carry : (reg : List Entity) → IsCarrierKind reg is_exception
exceptions_carry reg = record { carrier = carrier; bases = bases }
  where
    carrier : (body : Body) → is_exception body ≡ true → carries body ≡ true
    carrier (exception base members) is = refl
    carrier body is = let bad : false ≡ true = is in absurd cc

    bases : (body : Body) (b : List ℕ) → is_exception body ≡ true → bases_known reg body ≡ true → bases_in body ≡ b ∷ [] → is_there reg is_exception b ≡ true
    bases (exception base members) b is known has = first_passes (is_there reg is_exception) (at_most_one base) b known has
    bases body b is known has = let bad : false ≡ true = is in absurd cc

abbrev fields : List Field → List (List ℕ)
fields = map (λ f. f.name)

carrier_over : (levels : ℕ) (reg : List Entity) (wanted : Body → Bool) (name : List ℕ) → IsCarrierKind reg wanted → AllKnown reg → HasNoCircle (leads_to reg)
    → ends_within (leads_to reg) levels name ≡ true → is_there reg wanted name ≡ true → names_over reg name ≡ fields (all_members reg name)
carrier_over zero reg wanted name kind known none ends is = absurd (none_ends_at_once (leads_to reg) name ends)
carrier_over (suc levels) reg wanted name kind known none ends is =
    let found = found_there reg wanted name is in
    let e = found.0 in
    let carrier = kind.carrier e.body found.2 in
    let own : names_at (find_entity name reg) ≡ fields (own_members (find_entity name reg)) =
    ap names_at found.1 ∙ sym (carrier_names e e.body carrier) ∙ sym (ap (λ o. fields (own_members o)) found.1) in
    let stands : stands_on reg name ≡ bases_in e.body = ap stands_on_body found.1 ∙ carrier_stands e e.body carrier in
    let from : member_bases (find_entity name reg) ≡ bases_in e.body = ap member_bases found.1 ∙ carrier_bases e e.body carrier in
    let whole = all_members_are reg name none in
    elim (one_base e.body) [
      | inl nothing ↦
          names_alone reg name none (stands ∙ nothing) ∙ own
          ∙ sym (ap fields (whole ∙ ap (λ bs. flat_map (all_members reg) bs ++ own_members (find_entity name reg)) (from ∙ nothing)))
      | inr base ↦
          let b = base.0 in
          let led = base_leads (find_entity name reg) b (subst (λ l. Contains l b) (sym (from ∙ base.1)) (contains_head b [])) in
          let below = carrier_over levels reg wanted b kind known none (next_ends (leads_to reg) levels name b ends led)
          (kind.bases e.body b found.2 (known_of reg name e known found.1) base.1) in
          names_behind reg name b none (stands ∙ base.1) ∙ ap (λ l. l ++ names_at (find_entity name reg)) below ∙ ap (λ l. fields (all_members reg b) ++ l) own
          ∙ sym (map-append (λ (f : Field). f.name) (all_members reg b) (own_members (find_entity name reg)))
          ∙ sym (ap fields (whole ∙ ap (λ bs. flat_map (all_members reg) bs ++ own_members (find_entity name reg)) (from ∙ base.1)
          ∙ ap (λ l. l ++ own_members (find_entity name reg)) (append-nil (all_members reg b))))
    ]

carrier_differs : (reg : List Entity) (wanted : Body → Bool) (name : List ℕ) → IsCarrierKind reg wanted → AllKnown reg → HasNoCircle (leads_to reg) → is_there reg wanted name ≡ true
    → all_differ (names_over reg name) ≡ all_differ (map (λ f. f.name) (all_members reg name))
carrier_differs reg wanted name kind known none is = ap all_differ (carrier_over (suc (length reg)) reg wanted name kind known none (all_ways_end reg name none) is)

-- ---- all entities

-- an entity of this body, which its name finds
abbrev Finds : List Entity → List ℕ → Bool → Body → Type 0
Finds reg name published body = find_entity name reg ≡ Some (record { name = name; published = published; body = body })

nothing_over : (reg : List Entity) (name : List ℕ) (e : Entity) → HasNoCircle (leads_to reg) → find_entity name reg ≡ Some e → stands_on_body (Some e) ≡ [] → own_names e.body ≡ []
    → all_differ (names_over reg name) ≡ true
unfolding all_differ
nothing_over reg name e none found stands own = ap all_differ (names_alone reg name none (ap stands_on_body found ∙ stands) ∙ ap names_at found ∙ own)

by_body : (reg : List Entity) (name : List ℕ) (published : Bool) (body : Body) → AllKnown reg → HasNoCircle (leads_to reg) → Finds reg name published body
    → all_differ (names_over reg name) ≡ all_names_differ reg name body
by_body reg name published (interface bases members) known none found = interface_names reg name known (is_there_found reg is_interface name _ found refl)
by_body reg name published (struct base members) known none found = carrier_differs reg is_struct name (structs_carry reg) known none (is_there_found reg is_struct name _ found refl)
by_body reg name published (exception base members) known none found =
    carrier_differs reg is_exception name (exceptions_carry reg) known none (is_there_found reg is_exception name _ found refl)
by_body reg name published (enum items) known none found = nothing_over reg name _ none found refl refl
by_body reg name published (constants cs) known none found = nothing_over reg name _ none found refl refl
by_body reg name published (typedef k) known none found = nothing_over reg name _ none found refl refl
by_body reg name published (new_service base cs) known none found = nothing_over reg name _ none found refl refl
by_body reg name published (old_service parts) known none found = nothing_over reg name _ none found refl refl
by_body reg name published (new_singleton base) known none found = nothing_over reg name _ none found refl refl
by_body reg name published (old_singleton service) known none found = nothing_over reg name _ none found refl refl

-- the names over the bases of an entity differ exactly where the rule asks it
pub differ_as_asked : (reg : List Entity) (e : Entity) → AllKnown reg → HasNoCircle (leads_to reg) → find_entity e.name reg ≡ Some e
    → all_differ (names_over reg e.name) ≡ all_names_differ reg e.name e.body
differ_as_asked reg e known none found = by_body reg e.name e.published e.body known none found
