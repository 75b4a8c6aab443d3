-- Depths of defaults: that of a struct or an exception by its members, that of what is not there, and where all are shallow.
use Rattle.std.proofs.Common.{◌≡◌, ℕ, zero, suc, ◌+◌, ◌<◌, ◌≤◌, max, min, List, [], ◌∷◌, ◌++◌, length, map, drop, get_or, Option, None, Some, refl, sym, ap, subst, ◌∙◌, ◌⊎◌, inl, inr, arith}
use Rattle.std.specs.Prelude.{slice_get, nat_lt, ◌↔◌, Bool, true, false, if◌then◌else◌}
use Rattle.std.specs.List.{flat_map}
use Rattle.std.proofs.lemmas.Bool.Decides.{nat_tests}
use Rattle.std.proofs.lemmas.List.{drop_more, length-map}
use Rattle.uno_model.specs.Defaults.{default_of_kind, default_within}
use Rattle.uno_model.specs.Entities.{Entity, Field}
use Rattle.uno_model.specs.Kinds.{Kind}
use Rattle.uno_model.specs.Kinds as kd
use Rattle.uno_model.specs.Registry.{IsRising, find_entity, member_bases, own_members, members_within, all_members}
use Rattle.uno_model.specs.Sound.{IsSound}
use Rattle.uno_model.specs.Codes.{same_kind}
use Rattle.uno_model.specs.Values.{bytes, depth, depth_in, list, none, plains}
use Rattle.uno_model.proofs.DefaultLaws.{default_of_tuple}
use Rattle.uno_model.proofs.MemberLaws.{all_members_are}
use Rattle.uno_model.proofs.PlaceLaws.{at_slice, named_there}
use Rattle.uno_model.proofs.ReachLaws.{found_place}
use Rattle.uno_entities.specs.Entities.{entity_of, field_of}
use Rattle.uno_entities.specs.Finding.{IsGapOf}
use Rattle.uno_entities.specs.TypeNames.{kind_of}
use Rattle.uno_entities.specs.declared.entity.Entity as entity
use Rattle.uno_entities.specs.declared.entity.Field as types
use Rattle.default_depths.specs.Depths.{HasShallowDefaults, deepest, deepest_named, depth_named, depth_of, told}
use Rattle.default_depths.specs.Table.{HasShallowMembers}

-- ---- members

module _ (reg : List Entity) where
  -- the greatest depth among members is that of their defaults
  deepest_is : (fs : List Field) → deepest reg fs ≡ depth_in (plains (map (default_of_kind reg) (map (λ f. f.kind) fs)))
  unfolding deepest depth_of depth_in
  deepest_is [] = refl
  deepest_is (f ∷ fs) = ap (max (depth (default_of_kind reg f.kind))) (deepest_is fs)

  deepest_both : (xs ys : List Field) → deepest reg (xs ++ ys) ≡ max (deepest reg xs) (deepest reg ys)
  unfolding deepest
  deepest_both [] ys = omega arith
  deepest_both (x ∷ xs) ys = let rest = deepest_both xs ys in omega (arith, rest)

  -- the greatest depth so far, with one member more
  pub deeper : (fs : List types.Field) (i : ℕ) (f : types.Field) (so_far next one whole : ℕ) → i < length fs → f ≡ get_or fs i f → one ≡ told (depth_of reg (kind_of f.kind))
      → next ≡ max so_far one → so_far ≤ 1025 → told (max so_far (deepest reg (map field_of (drop i fs)))) ≡ whole
      → (told (max next (deepest reg (map field_of (drop (i + 1) fs)))) ≡ whole) × (next ≤ 1025)
  unfolding deepest told
  deeper fs i f so_far next one whole within is one_is next_is low all =
      let here = rw (drop_more fs i f within, sym is) at all in
      (omega arith, omega arith)

  -- an exception has the depth of a struct with its members
  pub exception_depth : (name : List ℕ) → depth_of reg (kd.exception name) ≡ depth_named reg name
  unfolding depth_of default_of_kind default_within
  exception_depth name = refl

  -- nothing stands in an empty sequence
  pub sequence_depth : (k : Kind) → depth_of reg (kd.sequence k) ≡ 1
  unfolding depth_of default_of_kind default_within depth
  sequence_depth k = by_test (same_kind k kd.byte)
    where
      by_test : (b : Bool) → depth (if b then bytes [] else list k none) ≡ 1
      by_test true = refl
      by_test false = refl

  flat_shallow : (f : List ℕ → List Field) → ((name : List ℕ) → deepest reg (f name) ≤ 1023) → (names : List (List ℕ)) → deepest reg (flat_map f names) ≤ 1023
  unfolding deepest
  flat_shallow f each [] = omega arith
  flat_shallow f each (name ∷ names) =
      let both = deepest_both (f name) (flat_map f names) in
      let here = each name in
      let rest = flat_shallow f each names in
      omega (arith, both, here, rest)

  own_shallow : HasShallowMembers reg → (name : List ℕ) (o : Option Entity) → find_entity name reg ≡ o → deepest reg (own_members o) ≤ 1023
  unfolding deepest
  own_shallow shallow name None found = omega arith
  own_shallow shallow name (Some e) found = let there = found_place name reg e found in shallow there.0 e there.1

  within_shallow : HasShallowMembers reg → (levels : ℕ) (name : List ℕ) → deepest reg (members_within levels reg name) ≤ 1023
  unfolding members_within deepest
  within_shallow shallow zero name = omega arith
  within_shallow shallow (suc levels) name =
      let o = find_entity name reg in
      let both = deepest_both (flat_map (members_within levels reg) (member_bases o)) (own_members o) in
      let bases = flat_shallow (members_within levels reg) (within_shallow shallow levels) (member_bases o) in
      let own = own_shallow shallow name o refl in
      omega (arith, both, bases, own)

-- ---- structs and exceptions

module _ (reg : List Entity) (sound : IsSound reg) where
  of_members : (name : List ℕ) → depth_named reg name ≡ suc (deepest reg (all_members reg name))
  unfolding depth_of depth
  of_members name = ap depth (default_of_tuple reg sound name).0 ∙ ap suc (sym (deepest_is reg (all_members reg name)))

  with_bases : (bases : List (List ℕ)) (x : ℕ) → max (suc (deepest reg (flat_map (all_members reg) bases))) (suc x) ≡ max (deepest_named reg bases) (suc x)
  unfolding deepest deepest_named
  with_bases [] x = omega arith
  with_bases (b ∷ bs) x =
      let both = deepest_both reg (all_members reg b) (flat_map (all_members reg) bs) in
      let own = of_members b in
      let rest = with_bases bs x in
      omega (arith, both, own, rest)

  -- by what its entity declares, and the base
  pub depth_is : (name : List ℕ) (o : Option Entity) → find_entity name reg ≡ o → depth_named reg name ≡ max (deepest_named reg (member_bases o)) (suc (deepest reg (own_members o)))
  depth_is name o found =
      let p = find_entity name reg in
      let all = of_members name ∙ ap (λ ms. suc (deepest reg ms)) (all_members_are reg name sound.no_circle) in
      let both = deepest_both reg (flat_map (all_members reg) (member_bases p)) (own_members p) in
      let bases = with_bases (member_bases p) (deepest reg (own_members p)) in
      let is : depth_named reg name ≡ max (deepest_named reg (member_bases p)) (suc (deepest reg (own_members p))) = omega (arith, all, both, bases) in
      subst (λ q. depth_named reg name ≡ max (deepest_named reg (member_bases q)) (suc (deepest reg (own_members q)))) found is

  -- what is not there has no members
  pub absent_depth : (name : List ℕ) → find_entity name reg ≡ None → 1 ≡ told (depth_named reg name)
  unfolding deepest deepest_named told
  absent_depth name absent = let is = depth_is name None absent in omega (arith, is)

  -- ---- all defaults

  shallow_kind : HasShallowMembers reg → (k : Kind) → depth_of reg k ≤ 1024
  unfolding depth_of default_of_kind default_within depth
  shallow_kind shallow (kd.struct name) =
      let is = of_members name in
      let most = within_shallow reg shallow (suc (length reg)) name in
      omega (arith, is, most)
  shallow_kind shallow (kd.exception name) =
      let same = exception_depth reg name in
      let is = of_members name in
      let most = within_shallow reg shallow (suc (length reg)) name in
      omega (arith, same, is, most)
  shallow_kind shallow (kd.sequence k) = let is = sequence_depth reg k in omega (arith, is)
  shallow_kind shallow k = omega arith

  pub shallow_told : IsRising reg → HasShallowMembers reg ↔ HasShallowDefaults reg
  shallow_told rising = (λ shallow k. shallow_kind shallow k, λ shallow place e at. most place e at (shallow (kd.struct e.name)))
    where
      most : (place : ℕ) (e : Entity) → slice_get reg place ≡ Some e → depth_named reg e.name ≤ 1024 → deepest reg (own_members (Some e)) ≤ 1023
      most place e at low = let is = depth_is e.name (Some e) (named_there reg place e rising at) in omega (arith, is, low)

  -- nor has one that stands in a gap
  pub gap_depth : (es : List Entity) (name : List ℕ) (i : ℕ) → es ≡ reg → IsGapOf name es i → 1 ≡ told (depth_named reg name)
  gap_depth es name i same gap = absent_depth name (subst (λ r. find_entity name r ≡ None) same gap.absent)

-- ---- at most one base

pub one_named : (reg : List Entity) (name : List ℕ) (shown : ℕ) → shown ≡ told (depth_named reg name) → shown ≡ told (deepest_named reg (name ∷ []))
unfolding deepest_named told
one_named reg name shown is = omega (arith, is)

pub none_named : (reg : List Entity) → 0 ≡ told (deepest_named reg [])
unfolding deepest_named told
none_named reg = omega arith

-- ---- loops

nothing_behind : {X : Type 0} (xs : List X) (i : ℕ) → length xs ≤ i → drop i xs ≡ []
nothing_behind [] zero end = refl
nothing_behind [] (suc i) end = refl
nothing_behind (x ∷ xs) zero end = absurd (omega (arith, end))
nothing_behind (x ∷ xs) (suc i) end = nothing_behind xs i (omega (arith, end))

pub all_deep : (reg : List Entity) (fs : List types.Field) (i depth whole : ℕ) → length fs ≤ i → told (max depth (deepest reg (map field_of (drop i fs)))) ≡ whole → depth ≤ 1025 → depth ≡ whole
unfolding deepest told
all_deep reg fs i depth whole end all low = let here = rw (nothing_behind fs i end) at all in omega (arith, here, low)

-- the entity of the next place
pub item_there : (es : List entity.Entity) (i : ℕ) (e : entity.Entity) → i < length es → e ≡ get_or es i e → slice_get (map entity_of es) i ≡ Some (entity_of e)
item_there [] i e low is = absurd (omega (arith, low))
item_there (x ∷ xs) zero e low is = ap (λ y. Some (entity_of y)) (sym is)
item_there (x ∷ xs) (suc i) e low is = item_there xs i e (omega (arith, low)) is

-- one entity more is shallow
pub shallow_more : (reg : List Entity) (i : ℕ) (e : Entity) → slice_get reg i ≡ Some e → deepest reg (own_members (Some e)) ≤ 1023
    → ((p : ℕ) (d : Entity) → p < i → slice_get reg p ≡ Some d → deepest reg (own_members (Some d)) ≤ 1023)
    → (p : ℕ) (d : Entity) → p < i + 1 → slice_get reg p ≡ Some d → deepest reg (own_members (Some d)) ≤ 1023
shallow_more reg i e at low before p d within there = by_place (nat_cases p i (omega (arith, within)))
  where
    nat_cases : (p i : ℕ) → p ≤ i → (p < i) ⊎ (p ≡ i)
    nat_cases zero zero le = inr refl
    nat_cases zero (suc i) le = inl (omega arith)
    nat_cases (suc p) zero le = absurd (omega (arith, le))
    nat_cases (suc p) (suc i) le = further (nat_cases p i (omega (arith, le)))
      where
        further : (p < i) ⊎ (p ≡ i) → (suc p < suc i) ⊎ (suc p ≡ suc i)
        further (inl l) = inl (omega (arith, l))
        further (inr s) = inr (ap suc s)

    same_entity : (x y : Entity) → Some x ≡ Some y → x ≡ y
    same_entity x y is = cc

    by_place : (p < i) ⊎ (p ≡ i) → deepest reg (own_members (Some d)) ≤ 1023
    by_place (inl l) = before p d l there
    by_place (inr s) = subst (λ x. deepest reg (own_members (Some x)) ≤ 1023) (same_entity e d (sym at ∙ ap (slice_get reg) (sym s) ∙ there)) low

-- the entity of the next place, in the registry
pub item_found : (reg : List Entity) (es : List entity.Entity) (i : ℕ) (e : entity.Entity) → map entity_of es ≡ reg → IsRising reg → i < length es → e ≡ get_or es i e
    → (slice_get reg i ≡ Some (entity_of e)) × (find_entity e.name reg ≡ Some (entity_of e))
item_found reg es i e same rising low is =
    let at = subst (λ r. slice_get r i ≡ Some (entity_of e)) same (item_there es i e low is) in
    (at, named_there reg i (entity_of e) rising at)

-- ---- what all members come to

module _ (reg : List Entity) (sound : IsSound reg) (rising : IsRising reg) where
  pub one_deep : (i : ℕ) (e : Entity) (b : Bool) → slice_get reg i ≡ Some e → b ≡ false → (b ≡ true) ↔ (deepest reg (own_members (Some e)) ≤ 1023) → (false ≡ true) ↔ HasShallowDefaults reg
  one_deep i e b at is tells = (λ bad. absurd (differs bad), λ shallow. sym is ∙ tells.1 ((shallow_told reg sound rising).1 shallow i e at))
    where
      differs : false ≡ true → ⊥
      differs bad = cc

  pub none_deep : (es : List entity.Entity) (i : ℕ) → map entity_of es ≡ reg → length es ≤ i
      → ((p : ℕ) (d : Entity) → p < i → slice_get reg p ≡ Some d → deepest reg (own_members (Some d)) ≤ 1023) → (true ≡ true) ↔ HasShallowDefaults reg
  none_deep es i same end all = (λ yes. (shallow_told reg sound rising).0 each, λ shallow. refl)
    where
      each : HasShallowMembers reg
      each place e at =
          let low = (at_slice reg place e e at).0 in
          let long = length-map es entity_of in
          let one = ap length same in
          all place e (omega (arith, low, end, long, one)) at

-- ---- sums of what is told

-- the depth of a struct or an exception, by those of its base and its members as they are told
pub joined : (own base own_depth base_depth depth result : ℕ) → own ≡ told own_depth → base ≡ told base_depth → depth ≡ max base_depth (suc own_depth) → result ≡ min (max base (own + 1)) 1025
    → result ≡ told depth
unfolding told
joined own base own_depth base_depth depth result own_is base_is is result_is = omega (arith, own_is, base_is, is, result_is)

-- a told depth is at most 1,023 where the depth is
pub told_tests : (depth shown : ℕ) → shown ≡ told depth → (nat_lt shown 1024 ≡ true) ↔ (depth ≤ 1023)
unfolding told
told_tests depth shown is = (λ yes. grind (arith, nat_tests), λ low. grind (arith, nat_tests))

pub told_small : (depth shown : ℕ) → shown ≡ told depth → shown ≤ 1025
unfolding told
told_small depth shown is = omega (arith, is)
