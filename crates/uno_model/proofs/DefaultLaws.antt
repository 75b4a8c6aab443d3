-- Defaults: more levels of structs than there are bring no more, so the default of a tuple is that of all its members; a default fits its type, and holds no object.
use Rattle.std.proofs.Common.{◌≡◌, ◌≢◌, ℕ, zero, suc, ◌≤◌, Bool, true, false, List, [], ◌∷◌, ◌++◌, length, map, Option, None, Some, refl, sym, ap, subst, ◌∙◌, inl, inr, arith, if◌then◌else◌}
use Rattle.std.specs.Prelude.{Contains}
use Rattle.std.specs.List.{list_all, flat_map}
use Rattle.std.proofs.lemmas.Bool.{and_parts}
use Rattle.std.proofs.lemmas.Bool.Decides.{not_from_Decides}
use Rattle.std.proofs.lemmas.List.{map-append}
use Rattle.std.proofs.lemmas.List.Elements.{Contains-append_left, Contains-append_right, Contains-append_cases}
use Rattle.uno_model.specs.Circles.{Leads, step, on, ends_within}
use Rattle.uno_model.specs.Codes.{same_kind}
use Rattle.uno_model.specs.Defaults.{default_with, default_within, default_of_kind, first_number, items_of}
use Rattle.uno_model.specs.Entities.{Entity, Body, Field, interface, struct, exception, enum, constants, typedef, new_service, old_service, new_singleton, old_singleton}
use Rattle.uno_model.specs.Fits.{Fits, FitEach, FitAll, member_kinds}
use Rattle.uno_model.specs.Kinds.{Kind}
use Rattle.uno_model.specs.Kinds as kd
use Rattle.uno_model.specs.Registry.{find_entity, at_most_one, contained, struct_in, leads_to, leads_to_body, member_bases, own_members, members_within, all_members}
use Rattle.uno_model.specs.Sound.{IsSound, is_there, is_struct, bases_known, is_storable, is_namable, elements_storable, kind_known}
use Rattle.uno_model.specs.Types.{is_type, is_formed}
use Rattle.uno_model.specs.Values.{Plain, Plains, plains, refs, refs_in, tuple, bytes, list, none, more}
use Rattle.uno_model.proofs.CircleLaws.{all_at, led_ends, ends_more, none_ends_at_once}
use Rattle.uno_model.proofs.CodeLaws.{same_kind_told}
use Rattle.uno_model.proofs.MemberKindLaws.{members_ruled}
use Rattle.uno_model.proofs.MemberLaws.{all_ways_end, nothing_in}
use Rattle.uno_model.proofs.PlaceLaws.{contains_cases, contains_head, contains_behind}
use Rattle.uno_model.proofs.UsedKindLaws.{found_entity, is_member}

-- ---- what the types of members lead to

-- a struct that is the type of a field is contained
field_contained : (fs : List Field) (m : List ℕ) → Contains (map (λ f. f.kind) fs) (kd.struct m) → Contains (contained fs) m
field_contained [] m has = absurd (nothing_in _ has)
field_contained (f ∷ fs) m has = elim (contains_cases f.kind (map (λ g. g.kind) fs) (kd.struct m) has) [
  | inl here ↦ subst (λ k. Contains (struct_in k ++ contained fs) m) (sym here) (contains_head m (contained fs))
  | inr behind ↦ Contains-append_right (struct_in f.kind) (contained fs) m (field_contained fs m behind)
]

module _ (reg : List Entity) (sound : IsSound reg) where
  abbrev entity : List ℕ → Bool → Body → Entity
  entity name published body = record { name = name; published = published; body = body }

  abbrev LeadsOn : List ℕ → List ℕ → Type 0
  LeadsOn name m = Leads (leads_to reg) name m

  -- a struct that is among the members of a struct is led to
  abbrev Inner : ℕ → Type 0
  Inner levels = (name m : List ℕ) → is_there reg is_struct name ≡ true → Contains (map (λ f. f.kind) (members_within levels reg name)) (kd.struct m) → LeadsOn name m

  base_inner : (levels : ℕ) (name m : List ℕ) (base : Option (List ℕ)) → Inner levels → list_all (is_there reg is_struct) (at_most_one base) ≡ true
      → ((b : List ℕ) → Contains (at_most_one base) b → Contains (leads_to reg name) b)
      → Contains (map (λ f. f.kind) (flat_map (members_within levels reg) (at_most_one base))) (kd.struct m) → LeadsOn name m
  base_inner levels name m None inner known leads has = absurd (nothing_in _ has)
  base_inner levels name m (Some b) inner known leads has =
      let own = members_within levels reg b in
      let there = (and_parts (is_there reg is_struct b) true known).0 in
      let has_own : Contains (map (λ f. f.kind) own) (kd.struct m) = elim (Contains-append_cases (map (λ f. f.kind) own) [] (kd.struct m)
      (subst (λ ks. Contains ks (kd.struct m)) (map-append (λ f. f.kind) own []) has)) [ inl front ↦ front | inr back ↦ absurd (nothing_in _ back) ] in
      on name b m (leads b (contains_head b [])) (inner b m there has_own)

  body_inner : (levels : ℕ) (name m : List ℕ) (own : List ℕ) (published : Bool) (body : Body) → Inner levels → find_entity name reg ≡ Some (entity own published body)
      → is_struct body ≡ true → bases_known reg body ≡ true
      → Contains (map (λ f. f.kind) (flat_map (members_within levels reg) (member_bases (Some (entity own published body))) ++ own_members (Some (entity own published body)))) (kd.struct m)
      → LeadsOn name m
  body_inner levels name m own published (struct base members) inner found is known has =
      let leads : leads_to reg name ≡ at_most_one base ++ contained members = ap leads_to_body found in
      let above = flat_map (members_within levels reg) (at_most_one base) in
      let parts = Contains-append_cases (map (λ f. f.kind) above) (map (λ f. f.kind) members) (kd.struct m)
      (subst (λ ks. Contains ks (kd.struct m)) (map-append (λ f. f.kind) above members) has) in
      elim parts [
        | inl inherited ↦
            base_inner levels name m base inner known (λ b b_has. subst (λ ns. Contains ns b) (sym leads) (Contains-append_left (at_most_one base) (contained members) b b_has)) inherited
        | inr here ↦
            step name m (subst (λ ns. Contains ns m) (sym leads) (Contains-append_right (at_most_one base) (contained members) m (field_contained members m here)))
      ]
  body_inner levels name m own published (interface bs ms) inner found is known has = absurd cc
  body_inner levels name m own published (exception b ms) inner found is known has = absurd cc
  body_inner levels name m own published (enum items) inner found is known has = absurd cc
  body_inner levels name m own published (constants cs) inner found is known has = absurd cc
  body_inner levels name m own published (typedef k) inner found is known has = absurd cc
  body_inner levels name m own published (new_service b cs) inner found is known has = absurd cc
  body_inner levels name m own published (old_service ps) inner found is known has = absurd cc
  body_inner levels name m own published (new_singleton b) inner found is known has = absurd cc
  body_inner levels name m own published (old_singleton s) inner found is known has = absurd cc

  inner_struct : (levels : ℕ) → Inner levels
  unfolding members_within
  inner_struct zero name m there has = absurd (nothing_in _ has)
  inner_struct (suc levels) name m there has = by_find (find_entity name reg) refl has (inner_struct levels)
    where
      by_find : (o : Option Entity) → find_entity name reg ≡ o → Contains (map (λ f. f.kind) (flat_map (members_within levels reg) (member_bases o) ++ own_members o)) (kd.struct m)
          → Inner levels → LeadsOn name m
      by_find None absent it inner = absurd (nothing_in _ it)
      by_find (Some e) found it inner =
          let is : is_struct e.body ≡ true = rw found at there in
          body_inner levels name m e.name e.published e.body inner found is (found_entity (λ d. bases_known reg d.body) name reg e sound.bases found).0 it

  -- ---- levels

  -- so many levels are enough for the type
  abbrev EndsWithin : ℕ → Kind → Type 0
  EndsWithin levels (kd.struct name) = ends_within (leads_to reg) levels name ≡ true
  EndsWithin levels (kd.exception name) = suc (suc (length reg)) ≤ levels
  EndsWithin levels k = Unit

  abbrev most : ℕ
  most = suc (suc (length reg))

  struct_known : (k : Kind) (name : List ℕ) → k ≡ kd.struct name → is_type reg k ≡ true → is_there reg is_struct name ≡ true
  struct_known k name is type =
      (and_parts (kind_known reg (kd.struct name)) true (and_parts (is_formed reg (kd.struct name)) (is_namable (kd.struct name)) (subst (λ j. is_type reg j ≡ true) is type)).0).0

  -- the members of a struct need one level less, and those of an exception as well
  struct_member_ends : (levels : ℕ) (name : List ℕ) (k : Kind) → is_type reg (kd.struct name) ≡ true → ends_within (leads_to reg) (suc levels) name ≡ true
      → Contains (member_kinds reg name) k → is_member reg k ≡ true → EndsWithin levels k
  struct_member_ends levels name (kd.struct m) type ends has is =
      led_ends (leads_to reg) levels name m ends (inner_struct (suc (length reg)) name m (struct_known (kd.struct name) name refl type) has)
  struct_member_ends levels name (kd.exception m) type ends has is = absurd cc
  struct_member_ends levels name k type ends has is = tt

  member_ends : (levels : ℕ) (k : Kind) → suc (length reg) ≤ levels → is_member reg k ≡ true → EndsWithin levels k
  member_ends levels (kd.struct m) enough is = ends_more (leads_to reg) (suc (length reg)) levels m enough (all_ways_end reg m sound.no_circle)
  member_ends levels (kd.exception m) enough is = absurd cc
  member_ends levels k enough is = tt

  type_ends : (k : Kind) → EndsWithin most k
  type_ends (kd.struct m) = ends_more (leads_to reg) (suc (length reg)) most m (omega arith) (all_ways_end reg m sound.no_circle)
  type_ends (kd.exception m) = omega arith
  type_ends k = tt

  -- functions that agree at what a list contains give one list
  map_same : (f g : Kind → Plain) (ks : List Kind) → ((k : Kind) → Contains ks k → f k ≡ g k) → map f ks ≡ map g ks
  map_same f g [] same = refl
  map_same f g (k ∷ ks) same =
      let here = same k (contains_head k ks) in
      let behind = map_same f g ks (λ j has. same j (contains_behind k ks j has)) in
      cc

  -- the type of a member
  member_at : (name : List ℕ) (k : Kind) → Contains (member_kinds reg name) k → is_member reg k ≡ true
  member_at name k has = all_at (is_member reg) (member_kinds reg name) k (members_ruled reg sound name) has

  typed : (k : Kind) → is_member reg k ≡ true → is_type reg k ≡ true
  typed k is = (and_parts (is_storable k) (is_type reg k) is).1

  abbrev tuple_within : ℕ → List ℕ → Plain
  tuple_within levels name = tuple name (plains (map (default_within levels reg) (member_kinds reg name)))

  -- where so many levels are enough, one more brings no more
  abbrev More : ℕ → Type 0
  More levels = (k : Kind) → is_type reg k ≡ true → EndsWithin levels k → default_within (suc levels) reg k ≡ default_within levels reg k

  tuple_more : (levels : ℕ) (name : List ℕ) → More levels → ((k : Kind) → Contains (member_kinds reg name) k → EndsWithin levels k)
      → tuple_within (suc levels) name ≡ tuple_within levels name
  tuple_more levels name above ends =
      ap (λ vs. tuple name (plains vs))
      (map_same (default_within (suc levels) reg) (default_within levels reg) (member_kinds reg name) (λ k has. above k (typed k (member_at name k has)) (ends k has)))

  more_levels : (levels : ℕ) → More levels
  unfolding default_within
  more_levels zero (kd.struct name) type ends = absurd (none_ends_at_once (leads_to reg) name ends)
  more_levels (suc levels) (kd.struct name) type ends =
      tuple_more levels name (more_levels levels) (λ k has. struct_member_ends levels name k type ends has (member_at name k has))
  more_levels zero (kd.exception name) type ends = absurd (omega (arith, ends))
  more_levels (suc levels) (kd.exception name) type ends =
      tuple_more levels name (more_levels levels) (λ k has. member_ends levels k (omega (arith, ends)) (member_at name k has))
  more_levels zero k type ends = refl
  more_levels (suc levels) k type ends = refl

  -- so the default of a struct or an exception is that of all its members
  pub default_of_tuple : (name : List ℕ) → (default_of_kind reg (kd.struct name) ≡ tuple name (plains (map (default_of_kind reg) (member_kinds reg name))))
      × (default_of_kind reg (kd.exception name) ≡ tuple name (plains (map (default_of_kind reg) (member_kinds reg name))))
  unfolding default_of_kind default_within
  default_of_tuple name =
      let levels = suc (length reg) in
      let same = sym (tuple_more levels name (more_levels levels) (λ k has. member_ends levels k (omega arith) (member_at name k has))) in
      (same, same)

  -- ---- what a default is

  abbrev FitsWithin : ℕ → Type 0
  FitsWithin levels = (k : Kind) → is_type reg k ≡ true → EndsWithin levels k → Fits reg (default_within levels reg k) k

  each_fits : (f : Kind → Plain) (ks : List Kind) → ((k : Kind) → Contains ks k → Fits reg (f k) k) → FitEach reg (plains (map f ks)) ks
  unfolding FitEach
  each_fits f [] each = tt
  each_fits f (k ∷ ks) each = (each k (contains_head k ks), each_fits f ks (λ j has. each j (contains_behind k ks j has)))

  members_fit : (levels : ℕ) (name : List ℕ) → FitsWithin levels → ((k : Kind) → Contains (member_kinds reg name) k → EndsWithin levels k)
      → FitEach reg (plains (map (default_within levels reg) (member_kinds reg name))) (member_kinds reg name)
  members_fit levels name fits ends =
      each_fits (default_within levels reg) (member_kinds reg name) (λ k has. fits k (typed k (member_at name k has)) (ends k has))

  no_elements_fit : (k : Kind) → is_type reg (kd.sequence k) ≡ true → Fits reg (if same_kind k kd.byte then bytes [] else list k none) (kd.sequence k)
  unfolding Fits FitAll
  no_elements_fit k type = by_test (same_kind k kd.byte) refl
    where
      by_test : (t : Bool) → same_kind k kd.byte ≡ t → Fits reg (if t then bytes [] else list k none) (kd.sequence k)
      by_test true same = ap kd.sequence ((same_kind_told k kd.byte).0 same)
      by_test false other = (refl, not_from_Decides (same_kind k kd.byte) (same_kind_told k kd.byte) other, type, tt)

  -- a type whose default has no members, at any levels
  abbrev is_tuple : Kind → Bool
  is_tuple (kd.struct name) = true
  is_tuple (kd.exception name) = true
  is_tuple _ = false

  simple_fits : (f : List ℕ → Plain) (k : Kind) → is_tuple k ≡ false → is_type reg k ≡ true → Fits reg (default_with reg f k) k
  unfolding Fits
  simple_fits f (kd.struct name) other type = absurd cc
  simple_fits f (kd.exception name) other type = absurd cc
  simple_fits f kd.kind other type = (refl, refl)
  simple_fits f kd.any other type = (refl, (λ same. let bad : kd.void ≡ kd.any = same in cc), refl, refl)
  simple_fits f (kd.enum name) other type = (refl, type)
  simple_fits f (kd.interface name) other type = type
  simple_fits f (kd.sequence k) other type = no_elements_fit k type
  simple_fits f k other type = refl

  fits_within : (levels : ℕ) → FitsWithin levels
  unfolding default_within Fits
  fits_within zero (kd.struct name) type ends = absurd (none_ends_at_once (leads_to reg) name ends)
  fits_within (suc levels) (kd.struct name) type ends =
      (inl refl, type, members_fit levels name (fits_within levels) (λ k has. struct_member_ends levels name k type ends has (member_at name k has)))
  fits_within zero (kd.exception name) type ends = absurd (omega (arith, ends))
  fits_within (suc levels) (kd.exception name) type ends =
      (inr refl, type, members_fit levels name (fits_within levels) (λ k has. member_ends levels k (omega (arith, ends)) (member_at name k has)))
  fits_within zero k type ends = simple_fits (λ name. tuple name none) k refl type
  fits_within (suc levels) k type ends = simple_fits (tuple_within levels) k refl type

  pub default_fits : (k : Kind) → is_type reg k ≡ true → Fits reg (default_of_kind reg k) k
  unfolding default_of_kind
  default_fits k type = fits_within most k type (type_ends k)

-- nothing in a default is an object
no_refs_in : (f : Kind → Plain) (ks : List Kind) → ((k : Kind) → refs (f k) ≡ []) → refs_in (plains (map f ks)) ≡ []
unfolding refs_in
no_refs_in f [] each = refl
no_refs_in f (k ∷ ks) each = rw (each k) (no_refs_in f ks each)

no_refs_with : (reg : List Entity) (f : List ℕ → Plain) (k : Kind) → ((name : List ℕ) → refs (f name) ≡ []) → refs (default_with reg f k) ≡ []
unfolding refs refs_in
no_refs_with reg f (kd.struct name) each = each name
no_refs_with reg f (kd.exception name) each = each name
no_refs_with reg f (kd.sequence k) each = elim (same_kind k kd.byte) as (λ t. refs (if t then bytes [] else list k none) ≡ []) [ true ↦ refl | false ↦ refl ]
no_refs_with reg f k each = refl

no_refs_within : (levels : ℕ) (reg : List Entity) (k : Kind) → refs (default_within levels reg k) ≡ []
unfolding default_within refs refs_in
no_refs_within zero reg k = no_refs_with reg (λ name. tuple name none) k (λ name. refl)
no_refs_within (suc levels) reg k =
    no_refs_with reg (λ name. tuple name (plains (map (default_within levels reg) (member_kinds reg name)))) k
    (λ name. no_refs_in (default_within levels reg) (member_kinds reg name) (no_refs_within levels reg))

pub default_holds_none : (reg : List Entity) (k : Kind) → refs (default_of_kind reg k) ≡ []
unfolding default_of_kind
default_holds_none reg k = no_refs_within (suc (suc (length reg))) reg k
