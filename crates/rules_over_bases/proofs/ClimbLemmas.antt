-- From a struct or an exception without members of its own to its base: the base has a member exactly where it has.
use Rattle.std.proofs.Common.{◌≡◌, ℕ, zero, suc, ◌<◌, Bool, true, false, not, ◌||◌, List, [], ◌∷◌, ◌++◌, length, get_or, set, Option, None, Some, refl, sym, ap, subst, ◌∙◌, ◌⊎◌, inl, inr, arith, append-nil}
use Rattle.std.specs.Prelude.{Contains, slice_get}
use Rattle.std.specs.List.{flat_map, list_any}
use Rattle.std.proofs.lemmas.List.{length-map, length-set}
use Rattle.std.proofs.lemmas.Option.{slice_get-get_or}
use Rattle.uno_model.specs.Circles.{HasNoCircle, ends_within}
use Rattle.uno_model.specs.Entities as plain
use Rattle.uno_model.specs.Entities.{Entity, Body, interface, struct, exception, enum, constants, typedef, new_service, old_service, new_singleton, old_singleton}
use Rattle.uno_model.specs.Registry.{IsRising, find_entity, leads_to, all_members, own_members, member_bases}
use Rattle.uno_model.specs.Sound.{has_member, is_there, is_some_list}
use Rattle.uno_model.proofs.CircleLaws.{none_ends_at_once, next_ends}
use Rattle.uno_model.proofs.MemberLaws.{base_leads, all_ways_end, all_members_are}
use Rattle.uno_model.proofs.PlaceLaws.{contains_head, named_there}
use Rattle.uno_model.proofs.ReachLaws.{found_place}
use Rattle.uno_entities.specs.Entities.{entities_of, entity_of, body_of}
use Rattle.uno_entities.specs.declared.entity.Entity as types
use Rattle.uno_entities.specs.Marks.{Marked}
use Rattle.uno_entities.proofs.SpreadLemmas.{entity_at}
use Rattle.entity_rules.specs.NearMembers.{carries}
use Rattle.rules_over_bases.specs.Climbing.{bases_in, needs_base, IsCarrierAt}
use Rattle.rules_over_bases.specs.Known.{KeepsAt, KnownToPass, KnownMembers}
use Rattle.rules_over_bases.proofs.FirstLemmas.{body_read}
use Rattle.rules_over_bases.proofs.KindLaws.{one_base, carrier_bases}

-- an entity of this body
abbrev with_body : Entity → Body → Entity
with_body e body = record { name = e.name; published = e.published; body = body }

-- ---- bodies

needs_carries : (body : Body) → needs_base body ≡ true → carries body ≡ true
needs_carries (struct base members) is = refl
needs_carries (exception base members) is = refl
needs_carries body is = let bad : false ≡ true = is in absurd cc

some_not : {X : Type 0} (xs : List X) → not (is_some_list xs) ≡ true → xs ≡ []
some_not [] is = refl
some_not (x ∷ xs) is = let bad : false ≡ true = is in absurd cc

needs_none : (e : Entity) (body : Body) → needs_base body ≡ true → own_members (Some (with_body e body)) ≡ []
needs_none e (struct base members) is = some_not members is
needs_none e (exception base members) is = some_not members is
needs_none e body is = let bad : false ≡ true = is in absurd cc

-- what carries no members has none, and no base to have them from
lacks_own : (e : Entity) (body : Body) → carries body ≡ false → own_members (Some (with_body e body)) ≡ []
lacks_own e (struct base members) is = let bad : true ≡ false = is in absurd cc
lacks_own e (exception base members) is = let bad : true ≡ false = is in absurd cc
lacks_own e body is = refl

lacks_bases : (e : Entity) (body : Body) → carries body ≡ false → member_bases (Some (with_body e body)) ≡ []
lacks_bases e (struct base members) is = let bad : true ≡ false = is in absurd cc
lacks_bases e (exception base members) is = let bad : true ≡ false = is in absurd cc
lacks_bases e body is = refl

asked : (carrying some : Bool) → carrying ≡ true → (not carrying || some) ≡ some
asked true some is = refl
asked false some is = let bad : false ≡ true = is in absurd cc

-- what carries members has one exactly where the list of all has
member_of_carrier : (reg : List Entity) (e : Entity) → carries e.body ≡ true → has_member reg e ≡ is_some_list (all_members reg e.name)
member_of_carrier reg e is = asked (carries e.body) _ is

-- ---- members

none_of_none : (reg : List Entity) (name : List ℕ) (o : Option Entity) → HasNoCircle (leads_to reg) → find_entity name reg ≡ o → member_bases o ≡ [] → own_members o ≡ []
    → all_members reg name ≡ []
none_of_none reg name o none found bases own =
    all_members_are reg name none
    ∙ ap (λ bs. flat_map (all_members reg) bs ++ own_members (find_entity name reg)) (ap member_bases found ∙ bases)
    ∙ ap own_members found ∙ own

-- a name whose entity carries no members, or that no entity has, has none
lacks_members : (reg : List Entity) (name : List ℕ) → HasNoCircle (leads_to reg) → is_there reg carries name ≡ false → all_members reg name ≡ []
lacks_members reg name none is = by_found (find_entity name reg) refl
  where
    by_found : (o : Option Entity) → find_entity name reg ≡ o → all_members reg name ≡ []
    by_found None found = none_of_none reg name None none found refl refl
    by_found (Some e) found =
        let told : is_there reg carries name ≡ carries e.body = rw found refl in
        none_of_none reg name (Some e) none found (lacks_bases e e.body (sym told ∙ is)) (lacks_own e e.body (sym told ∙ is))

-- without members of its own it has those of its base
needs_members : (reg : List Entity) (e : Entity) → HasNoCircle (leads_to reg) → find_entity e.name reg ≡ Some e → needs_base e.body ≡ true
    → all_members reg e.name ≡ flat_map (all_members reg) (bases_in e.body)
needs_members reg e none found needs =
    all_members_are reg e.name none
    ∙ ap (λ ms. flat_map (all_members reg) (member_bases (find_entity e.name reg)) ++ ms) (ap own_members found ∙ needs_none e e.body needs)
    ∙ append-nil (flat_map (all_members reg) (member_bases (find_entity e.name reg)))
    ∙ ap (flat_map (all_members reg)) (ap member_bases found ∙ carrier_bases e e.body (needs_carries e.body needs))

or_none : (a : Bool) → (a || false) ≡ false → a ≡ false
or_none true is = let bad : true ≡ false = is in absurd cc
or_none false is = refl

-- with no base that carries members it has none
pub no_base_none : (reg : List Entity) (e : Entity) → HasNoCircle (leads_to reg) → find_entity e.name reg ≡ Some e → needs_base e.body ≡ true
    → list_any (is_there reg carries) (bases_in e.body) ≡ false → false ≡ has_member reg e
no_base_none reg e none found needs lacks =
    sym (member_of_carrier reg e (needs_carries e.body needs) ∙ ap is_some_list (needs_members reg e none found needs ∙ nothing (bases_in e.body) (one_base e.body) lacks))
  where
    nothing : (bases : List (List ℕ)) → (bases ≡ []) ⊎ ((b : List ℕ) × (bases ≡ b ∷ [])) → list_any (is_there reg carries) bases ≡ false → flat_map (all_members reg) bases ≡ []
    nothing bases (inl is) lacks = ap (flat_map (all_members reg)) is
    nothing bases (inr one) lacks =
        let b = one.0 in
        ap (flat_map (all_members reg)) one.1 ∙ append-nil (all_members reg b)
        ∙ lacks_members reg b none (or_none (is_there reg carries b) (sym (ap (list_any (is_there reg carries)) one.1) ∙ lacks))

-- and else what its base has
pub as_its_base : (reg : List Entity) (e f : Entity) (place : ℕ) → HasNoCircle (leads_to reg) → find_entity e.name reg ≡ Some e → needs_base e.body ≡ true
    → IsCarrierAt reg (bases_in e.body) place → slice_get reg place ≡ Some f → has_member reg e ≡ has_member reg f
as_its_base reg e f place none found needs base at =
    let named : f.name ≡ base.name = (found_place base.name reg f (base.there.found ∙ at)).2 in
    member_of_carrier reg e (needs_carries e.body needs)
    ∙ ap is_some_list (needs_members reg e none found needs ∙ ap (flat_map (all_members reg)) base.alone ∙ append-nil (all_members reg base.name) ∙ ap (all_members reg) (sym named))
    ∙ sym (member_of_carrier reg f (base.carrier f at))

-- its ways are longer than those of its base
base_ends : (reg : List Entity) (levels : ℕ) (e f : Entity) (place : ℕ) → find_entity e.name reg ≡ Some e → needs_base e.body ≡ true → IsCarrierAt reg (bases_in e.body) place
    → slice_get reg place ≡ Some f → ends_within (leads_to reg) (suc levels) e.name ≡ true → ends_within (leads_to reg) levels f.name ≡ true
base_ends reg levels e f place found needs base at ends =
    let named : f.name ≡ base.name = (found_place base.name reg f (base.there.found ∙ at)).2 in
    let from : member_bases (find_entity e.name reg) ≡ base.name ∷ [] = ap member_bases found ∙ carrier_bases e e.body (needs_carries e.body needs) ∙ base.alone in
    let led = base_leads (find_entity e.name reg) base.name (subst (λ l. Contains l base.name) (sym from) (contains_head base.name [])) in
    subst (λ n. ends_within (leads_to reg) levels n ≡ true) (sym named) (next_ends (leads_to reg) levels e.name base.name ends led)

some_own : {X : Type 0} (xs ys : List X) → is_some_list ys ≡ true → is_some_list (xs ++ ys) ≡ true
some_own [] ys is = is
some_own (x ∷ xs) ys is = refl

not_not : (b : Bool) → not b ≡ false → b ≡ true
not_not true is = refl
not_not false is = let bad : true ≡ false = is in absurd cc

-- what needs no base has a member, or needs none
pub own_suffices : (reg : List Entity) (e : Entity) → HasNoCircle (leads_to reg) → find_entity e.name reg ≡ Some e → needs_base e.body ≡ false → true ≡ has_member reg e
own_suffices reg e none found needs = by_body e.body refl needs
  where
    free : carries e.body ≡ false → true ≡ has_member reg e
    free is = sym (ap (λ c. not c || is_some_list (all_members reg e.name)) is)

    has_some : (members : List plain.Field) → carries e.body ≡ true → own_members (Some e) ≡ members → is_some_list members ≡ true → true ≡ has_member reg e
    has_some members carrier own some =
        let here : is_some_list (own_members (find_entity e.name reg)) ≡ true = ap (λ o. is_some_list (own_members o)) found ∙ ap is_some_list own ∙ some in
        sym (member_of_carrier reg e carrier ∙ ap is_some_list (all_members_are reg e.name none)
        ∙ some_own (flat_map (all_members reg) (member_bases (find_entity e.name reg))) (own_members (find_entity e.name reg)) here)

    by_body : (body : Body) → e.body ≡ body → needs_base body ≡ false → true ≡ has_member reg e
    by_body (struct base members) is fine = has_some members (ap carries is) (ap (λ b. own_members (Some (with_body e b))) is) (not_not (is_some_list members) fine)
    by_body (exception base members) is fine = has_some members (ap carries is) (ap (λ b. own_members (Some (with_body e b))) is) (not_not (is_some_list members) fine)
    by_body (interface bases members) is fine = free (ap carries is)
    by_body (enum items) is fine = free (ap carries is)
    by_body (constants cs) is fine = free (ap carries is)
    by_body (typedef k) is fine = free (ap carries is)
    by_body (new_service base cs) is fine = free (ap carries is)
    by_body (old_service parts) is fine = free (ap carries is)
    by_body (new_singleton base) is fine = free (ap carries is)
    by_body (old_singleton service) is fine = free (ap carries is)

-- ---- the climb

-- the entity at the one place has a member exactly where that at the other has, and its ways are shorter
pub record Climbing (reg : List Entity) (place at left : ℕ) : Type 0 where
  pub within : at < length reg
  pub alike : (e f : Entity) → slice_get reg place ≡ Some e → slice_get reg at ≡ Some f → has_member reg e ≡ has_member reg f
  pub ends : (f : Entity) → slice_get reg at ≡ Some f → ends_within (leads_to reg) left f.name ≡ true

one_entity : (x y : Entity) (o : Option Entity) → o ≡ Some x → o ≡ Some y → x ≡ y
one_entity x y o first second = let both : Some x ≡ Some y = sym first ∙ second in cc

pub climb_begins : (reg : List Entity) (place left : ℕ) → HasNoCircle (leads_to reg) → place < length reg → left ≡ suc (length reg) → Climbing reg place place left
climb_begins reg place left none within is = record {
  within = within;
  alike = λ e f at there. ap (has_member reg) (one_entity e f (slice_get reg place) at there);
  ends = λ f at. subst (λ n. ends_within (leads_to reg) n f.name ≡ true) (sym is) (all_ways_end reg f.name none);
}

pub climb_on : (reg : List Entity) (place at base left next : ℕ) (body : Body) → IsRising reg → HasNoCircle (leads_to reg) → Climbing reg place at left → left ≡ suc next
    → ((f : Entity) → slice_get reg at ≡ Some f → body ≡ f.body) → needs_base body ≡ true → IsCarrierAt reg (bases_in body) base → Climbing reg place base next
climb_on reg place at base left next body rising none climb one_less here needs carrier =
    let f = entity_at reg at climb.within in
    let found = named_there reg at f.0 rising f.1 in
    let is = here f.0 f.1 in
    let needs_f = sym (ap needs_base is) ∙ needs in
    let carrier_f = subst (λ b. IsCarrierAt reg (bases_in b) base) is carrier in
    record {
      within = carrier.there.within;
      alike = λ e g place_at base_at. climb.alike e f.0 place_at f.1 ∙ as_its_base reg f.0 g base none found needs_f carrier_f base_at;
      ends = λ g base_at. base_ends reg next f.0 g base found needs_f carrier_f base_at (subst (λ n. ends_within (leads_to reg) n f.0.name ≡ true) one_less (climb.ends f.0 f.1));
    }

-- where the answer is that of the entity to which it climbed, it is that of the first
pub climb_tells : (reg : List Entity) (place at left : ℕ) (answer : Bool) → Climbing reg place at left → ((f : Entity) → slice_get reg at ≡ Some f → answer ≡ has_member reg f)
    → KeepsAt (has_member reg) reg place answer
climb_tells reg place at left answer climb told e there =
    let f = entity_at reg at climb.within in
    told f.0 f.1 ∙ sym (climb.alike e f.0 there f.1)

-- what it came to needs no base
pub climb_ends : (es : List types.Entity) (place at left : ℕ) (d : types.Entity) (needs : Bool) → IsRising (entities_of es) → HasNoCircle (leads_to (entities_of es))
    → Climbing (entities_of es) place at left → needs ≡ needs_base (body_of (get_or es at d).body) → needs ≡ false
    → KeepsAt (has_member (entities_of es)) (entities_of es) place true
climb_ends es place at left d needs rising none climb says is =
    let within : at < length es = omega (arith, climb.within, length-map es entity_of) in
    climb_tells (entities_of es) place at left true climb
    (λ f there. own_suffices (entities_of es) f none (named_there (entities_of es) at f rising there)
    (sym (ap needs_base (body_read es at d within f there)) ∙ sym says ∙ is))

-- it needs one and has none
pub climb_fails : (es : List types.Entity) (place at left : ℕ) (c d : types.Entity) (needs : Bool) → IsRising (entities_of es) → HasNoCircle (leads_to (entities_of es))
    → Climbing (entities_of es) place at left → needs ≡ needs_base (body_of (get_or es at c).body) → needs ≡ true
    → list_any (is_there (entities_of es) carries) (bases_in (body_of (get_or es at d).body)) ≡ false → KeepsAt (has_member (entities_of es)) (entities_of es) place false
climb_fails es place at left c d needs rising none climb says is lacks =
    let within : at < length es = omega (arith, climb.within, length-map es entity_of) in
    climb_tells (entities_of es) place at left false climb
    (λ f there. no_base_none (entities_of es) f none (named_there (entities_of es) at f rising there)
    (sym (ap needs_base (body_read es at c within f there)) ∙ sym says ∙ is)
    (ap (λ b. list_any (is_there (entities_of es) carries) (bases_in b)) (sym (body_read es at d within f there)) ∙ lacks))

-- it needs one and has one
pub climb_steps : (es : List types.Entity) (place at base left next : ℕ) (c d : types.Entity) (needs : Bool) → IsRising (entities_of es) → HasNoCircle (leads_to (entities_of es))
    → Climbing (entities_of es) place at left → left ≡ suc next → needs ≡ needs_base (body_of (get_or es at c).body) → needs ≡ true
    → IsCarrierAt (entities_of es) (bases_in (body_of (get_or es at d).body)) base → Climbing (entities_of es) place base next
climb_steps es place at base left next c d needs rising none climb one_less says is carrier =
    let within : at < length es = omega (arith, climb.within, length-map es entity_of) in
    let f = entity_at (entities_of es) at climb.within in
    let same = body_read es at c within f.0 f.1 ∙ sym (body_read es at d within f.0 f.1) in
    climb_on (entities_of es) place at base left next (body_of (get_or es at d).body) rising none climb one_less (body_read es at d within)
    (sym (ap needs_base same) ∙ sym says ∙ is) carrier

-- the base of what has a member only from it has one
pub marks_on : (es : List types.Entity) (at base : ℕ) (c d : types.Entity) (needs : Bool) → IsRising (entities_of es) → HasNoCircle (leads_to (entities_of es)) → at < length es
    → KeepsAt (has_member (entities_of es)) (entities_of es) at true → needs ≡ needs_base (body_of (get_or es at c).body) → needs ≡ true
    → IsCarrierAt (entities_of es) (bases_in (body_of (get_or es at d).body)) base
    → (base < length es) × KeepsAt (has_member (entities_of es)) (entities_of es) base true
marks_on es at base c d needs rising none within here says is carrier =
    let reg = entities_of es in
    let f = entity_at reg at (omega (arith, within, length-map es entity_of)) in
    let needs_f = sym (ap needs_base (body_read es at c within f.0 f.1)) ∙ sym says ∙ is in
    let carrier_f = subst (λ b. IsCarrierAt reg (bases_in b) base) (body_read es at d within f.0 f.1) carrier in (
      omega (arith, carrier.there.within, length-map es entity_of),
      λ g there. here f.0 f.1 ∙ as_its_base reg f.0 g base none (named_there reg at f.0 rising f.1) needs_f carrier_f there,
    )

pub never_ends : (reg : List Entity) (place at left : ℕ) → Climbing reg place at left → left ≡ 0 → ⊥
never_ends reg place at left climb none =
    let f = entity_at reg at climb.within in
    none_ends_at_once (leads_to reg) f.0.name (subst (λ n. ends_within (leads_to reg) n f.0.name ≡ true) none (climb.ends f.0 f.1))

-- ---- what is known

marked_set : (known : List Bool) (at i : ℕ) → Marked (set known at true) i → (i ≡ at) ⊎ Marked known i
marked_set [] at i m = inr m
marked_set (k ∷ ks) zero zero m = inl refl
marked_set (k ∷ ks) zero (suc i) m = inr m
marked_set (k ∷ ks) (suc at) zero m = inr m
marked_set (k ∷ ks) (suc at) (suc i) m = elim (marked_set ks at i m) [ inl here ↦ inl (ap suc here) | inr old ↦ inr old ]

pub known_one_more : (test : Entity → Bool) (reg : List Entity) (known : List Bool) (at : ℕ) → KnownToPass test reg known → KeepsAt test reg at true
    → KnownToPass test reg (set known at true)
known_one_more test reg known at before here = record {
  one_each = length-set known at true ∙ before.one_each;
  passes = λ i m. elim (marked_set known at i m) [ inl is ↦ subst (λ k. KeepsAt test reg k true) (sym is) here | inr old ↦ before.passes i old ];
}

pub known_at : (reg : List Entity) (known : List Bool) (at : ℕ) (d : Bool) → KnownMembers reg known → at < length reg → get_or known at d ≡ true → KeepsAt (has_member reg) reg at true
known_at reg known at d before within is =
    before.passes at (slice_get-get_or known at d (omega (arith, within, before.one_each)) ∙ ap (λ b. Some b) is)
