-- What a walk up the bases keeps.
use Rattle.std.proofs.Common.{◌≡◌, ℕ, zero, suc, ◌+◌, ◌-◌, ◌*◌, ◌^◌, ◌<◌, ◌≤◌, List, [], ◌∷◌, ◌++◌, length, map}
use Rattle.std.proofs.Common.{get_or, Option, None, Some, true, false, sym, ap, ◌∙◌, refl, arith}
use Rattle.std.specs.Prelude.{slice_get, IfSome, IsSome, MatchOption}
use Rattle.std.specs.Borrow.{Bor}
use Rattle.std.specs.List.{flat_map}
use Rattle.std.specs.Option.{option_map}
use Rattle.std.proofs.lemmas.List.{length-append, length-map, append-nil}
use Rattle.std.proofs.lemmas.List.Concat.{flat_map-cons}
use Rattle.std.proofs.lemmas.Option.{slice_get-map, slice_get-get_or}
use Rattle.uno_model.specs.Entities as plain
use Rattle.uno_model.specs.Registry.{find_entity, members_within}
use Rattle.uno_model.proofs.MemberLaws.{members_up, no_members}
use Rattle.uno_types.specs.declared.members.Level.{Level}
use Rattle.uno_entities.specs.declared.entity.Field.{Field}
use Rattle.uno_entities.specs.Entities.{field_of}
use Rattle.uno_types.specs.Members.{IsLevel, base_named}

-- ---- one level

-- the members from a level on are those of the base over one level less, if there is one, and then the level's own
abbrev pub behind : List plain.Entity → ℕ → Level → List plain.Field
behind reg left level = flat_map (members_within (left - 1) reg) (base_named level.base)

pub from_level : (reg : List plain.Entity) (at : List ℕ) (left : ℕ) (level : Level) → 0 < left → IsLevel level (find_entity at reg)
    → members_within left reg at ≡ behind reg left level ++ map field_of level.own.now
from_level reg at left level some is =
    members_up left reg at (base_named level.base) some is.base ∙ ap (λ ms. behind reg left level ++ ms) (sym is.own)

-- without a base there are none behind, and with one they are the base's
pub behind_none : (reg : List plain.Entity) (left : ℕ) (level : Level) → level.base ≡ None → behind reg left level ≡ []
behind_none reg left level none = ap (λ b. flat_map (members_within (left - 1) reg) (base_named b)) none

pub behind_base : (reg : List plain.Entity) (left : ℕ) (level : Level) (base : Bor (List ℕ)) → level.base ≡ Some base
    → behind reg left level ≡ members_within (left - 1) reg base.now
behind_base reg left level base one =
    ap (λ b. flat_map (members_within (left - 1) reg) (base_named b)) one ∙ flat_map-cons (members_within (left - 1) reg) base.now [] ∙ append-nil _

-- a level's own members and those behind are so many
parts_length : (ms front : List plain.Field) (own : List Field) → ms ≡ front ++ map field_of own → length ms ≡ length front + length own
parts_length ms front own parts = omega (arith, ap length parts, length-append front (map field_of own), length-map own field_of)

-- ---- counting

-- what is counted, and what the levels that are left have, is all; and the count has room for the levels that are left
pub record Counts (reg : List plain.Entity) (name at : List ℕ) (levels left count : ℕ) : Type 0 where
  pub all : count + length (members_within left reg at) ≡ length (members_within levels reg name)
  pub room : count + left * 2 ^ 64 ≤ 2 ^ 128

-- the count where there is no base, where there is one, and where no level is left
pub counted : (reg : List plain.Entity) (name at : List ℕ) (levels left count : ℕ) (level : Level) → Counts reg name at levels left count → 0 < left
    → IsLevel level (find_entity at reg)
    → level.base ≡ None → count + length level.own.now ≡ length (members_within levels reg name)
counted reg name at levels left count level counts some is none =
    omega (arith, counts.all, parts_length _ _ level.own.now (from_level reg at left level some is), ap length (behind_none reg left level none))

pub counts_on : (reg : List plain.Entity) (name at : List ℕ) (levels left count : ℕ) (level : Level) (base : Bor (List ℕ)) → Counts reg name at levels left count → 0 < left
    → IsLevel level (find_entity at reg) → level.base ≡ Some base → length level.own.now < 2 ^ 64 → Counts reg name base.now levels (left - 1) (count + length level.own.now)
counts_on reg name at levels left count level base counts some is one few =
    record {
      all = omega (arith, counts.all, parts_length _ _ level.own.now (from_level reg at left level some is), ap length (behind_base reg left level base one));
      room = omega (arith, counts.room, few, some);
    }

pub counted_at_end : (reg : List plain.Entity) (name at : List ℕ) (levels left count : ℕ) → Counts reg name at levels left count → left ≡ 0
    → count ≡ length (members_within levels reg name)
counted_at_end reg name at levels left count counts none = omega (arith, counts.all, ap length (no_members left reg at none))

-- ---- finding

-- the member at the place is among those of the levels that are left, which are so many
pub record Narrows (reg : List plain.Entity) (name at : List ℕ) (levels left end place : ℕ) : Type 0 where
  pub long : end ≡ length (members_within left reg at)
  pub within : place < end
  pub same : slice_get (members_within left reg at) place ≡ slice_get (members_within levels reg name) place

-- a level's own members are no more than all
pub own_fit : (reg : List plain.Entity) (at : List ℕ) (left end : ℕ) (level : Level) → end ≡ length (members_within left reg at) → 0 < left → IsLevel level (find_entity at reg)
    → length level.own.now ≤ end
own_fit reg at left end level long some is = omega (arith, long, parts_length _ _ level.own.now (from_level reg at left level some is))

-- what stands at a place of two lists, one behind the other
get_front : {X : Type 0} (xs ys : List X) (i : ℕ) → i < length xs → slice_get (xs ++ ys) i ≡ slice_get xs i
get_front [] ys i low = absurd (omega arith)
get_front (x ∷ xs) ys zero low = refl
get_front (x ∷ xs) ys (suc i) low = get_front xs ys i (omega arith)

get_behind : {X : Type 0} (xs ys : List X) (i j : ℕ) → j ≡ length xs + i → slice_get (xs ++ ys) j ≡ slice_get ys i
get_behind [] ys i j is = let same : j ≡ i = omega (arith, is) in ap (slice_get ys) same
get_behind (x ∷ xs) ys i zero is = absurd (omega (arith, is))
get_behind (x ∷ xs) ys i (suc j) is = get_behind xs ys i j (omega (arith, is))

-- what a lookup gives at a place that is there
looked_up : (result : Option (Bor Field)) (own : List Field) (i : ℕ) (all : Option plain.Field) → i < length own → (i < length own → IsSome result)
    → IfSome result (λ f. f.now ≡ get_or own i f.now) → all ≡ slice_get (map field_of own) i → MatchOption result ⊥ (λ f. all ≡ Some (field_of f.now))
looked_up None own i all low some at is = let bad : false ≡ true = some low in absurd cc
looked_up (Some f) own i all low some at is =
    is ∙ slice_get-map field_of own i ∙ ap (option_map field_of) (slice_get-get_or own i f.now low ∙ ap (λ x. Some x) (sym at))

-- a place that is not before a level's own members is among them
pub own_found : (reg : List plain.Entity) (name at : List ℕ) (levels left end place : ℕ) (level : Level) (result : Option (Bor Field))
    → Narrows reg name at levels left end place → 0 < left
    → IsLevel level (find_entity at reg) → end - length level.own.now ≤ place → (place - (end - length level.own.now) < length level.own.now → IsSome result)
    → IfSome result (λ f. f.now ≡ get_or level.own.now (place - (end - length level.own.now)) f.now)
    → MatchOption result ⊥ (λ f. slice_get (members_within levels reg name) place ≡ Some (field_of f.now))
own_found reg name at levels left end place level result narrows some is high found lookup =
    let parts = from_level reg at left level some is in
    let long = parts_length _ _ level.own.now parts in
    let i = place - (end - length level.own.now) in
    let place_is : place ≡ length (behind reg left level) + i = omega (arith, narrows.long, long, high) in
    looked_up result level.own.now i _ (omega (arith, narrows.long, narrows.within, long, high)) found lookup
    (sym narrows.same ∙ ap (λ xs. slice_get xs place) parts ∙ get_behind (behind reg left level) (map field_of level.own.now) i place place_is)

-- one before them is among the base's members, so there is a base
pub none_before : (reg : List plain.Entity) (at : List ℕ) (left end place : ℕ) (level : Level) → end ≡ length (members_within left reg at) → 0 < left
    → IsLevel level (find_entity at reg)
    → place < end - length level.own.now → level.base ≡ None → ⊥
none_before reg at left end place level long some is low none =
    omega (arith, long, low, parts_length _ _ level.own.now (from_level reg at left level some is), ap length (behind_none reg left level none))

pub narrows_on : (reg : List plain.Entity) (name at : List ℕ) (levels left end place : ℕ) (level : Level) (base : Bor (List ℕ))
    → Narrows reg name at levels left end place → 0 < left
    → IsLevel level (find_entity at reg) → place < end - length level.own.now → level.base ≡ Some base → Narrows reg name base.now levels (left - 1) (end - length level.own.now) place
narrows_on reg name at levels left end place level base narrows some is low one =
    let parts = from_level reg at left level some is in
    let whole = parts_length _ _ level.own.now parts in
    let is_base = behind_base reg left level base one in
    let long : end - length level.own.now ≡ length (members_within (left - 1) reg base.now) = omega (arith, narrows.long, whole, ap length is_base) in
    let front = get_front (behind reg left level) (map field_of level.own.now) place (omega (arith, long, low, ap length is_base)) in
    record { long = long; within = low; same = ap (λ xs. slice_get xs place) (sym is_base) ∙ sym front ∙ ap (λ xs. slice_get xs place) (sym parts) ∙ narrows.same }

-- over no level there is no place
pub none_at_end : (reg : List plain.Entity) (name at : List ℕ) (levels left end place : ℕ) → Narrows reg name at levels left end place → left ≡ 0 → ⊥
none_at_end reg name at levels left end place narrows none = omega (arith, narrows.long, narrows.within, ap length (no_members left reg at none))
