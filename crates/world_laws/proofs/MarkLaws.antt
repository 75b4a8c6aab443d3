-- Marks find entries: the one with a mark stands at that place among those of both, and each of these has one; and marks rise.
use Rattle.std.proofs.Common.{◌≡◌, refl, sym, ap, ◌∙◌, subst, ℕ, zero, suc, ◌+◌, ◌≤◌, ◌<◌, Bool, true, false, List, [], ◌∷◌, Option, Some, slice_get, arith, if◌then◌else◌}
use Rattle.std.specs.Option.{option_map}
use Rattle.bridge_model.specs.Entries.{Entry}
use Rattle.world_model.specs.Worlds.{Event, entries_of, is_at}
use Rattle.world_model.specs.declared.side.Side.{Side}
use Rattle.world_model.specs.declared.side.Side.TheVariants.{A, B}
use Rattle.world_laws.specs.Merging.{event_at, places_of}

is_itself : (s : Side) → is_at s s ≡ true
is_itself A = refl
is_itself B = refl

same_number : (n m : ℕ) → ◌≡◌ {A = Option ℕ} (Some n) (Some m) → n ≡ m
same_number n m is = cc

same_event : (e f : Event) → ◌≡◌ {A = Option Event} (Some e) (Some f) → e ≡ f
same_event e f is = cc

-- ---- places rise

-- what is there has at least this number
abbrev AreFrom : ℕ → List ℕ → Type 0
AreFrom n ns = (k m : ℕ) → slice_get ns k ≡ Some m → n ≤ m

one_from : (n : ℕ) (ns : List ℕ) → AreFrom (suc n) ns → (b : Bool) → AreFrom n (if b then n ∷ ns else ns)
one_from n ns later true zero m is = let same = same_number n m is in omega (arith, same)
one_from n ns later true (suc k) m is = let over = later k m is in omega (arith, over)
one_from n ns later false k m is = let over = later k m is in omega (arith, over)

from_there : (s : Side) (n : ℕ) (es : List Event) → AreFrom n (places_of s n es)
unfolding places_of
from_there s n [] k m is = absurd (cc)
from_there s n (e ∷ es) k m is = one_from n (places_of s (suc n) es) (from_there s (suc n) es) (is_at s e.side) k m is

abbrev Rise : List ℕ → Type 0
Rise ns = (k l m n : ℕ) → k < l → slice_get ns k ≡ Some m → slice_get ns l ≡ Some n → m < n

one_rises : (p : ℕ) (ns : List ℕ) → AreFrom (suc p) ns → Rise ns → (b : Bool) → Rise (if b then p ∷ ns else ns)
one_rises p ns later rise false k l m n less here there = rise k l m n less here there
one_rises p ns later rise true k zero m n less here there = absurd (omega (arith, less))
one_rises p ns later rise true zero (suc l) m n less here there = let same = same_number p m here in let over = later l n there in omega (arith, same, over)
one_rises p ns later rise true (suc k) (suc l) m n less here there = rise k l m n (omega (arith, less)) here there

all_rise : (s : Side) (p : ℕ) (es : List Event) → Rise (places_of s p es)
unfolding places_of
all_rise s p [] k l m n less here there = absurd (cc)
all_rise s p (e ∷ es) k l m n less here there =
    one_rises p (places_of s (suc p) es) (from_there s (suc p) es) (all_rise s (suc p) es) (is_at s e.side) k l m n less here there

pub marks_rise : (s : Side) (es : List Event) (k l m n : ℕ) → k < l → slice_get (places_of s 0 es) k ≡ Some m → slice_get (places_of s 0 es) l ≡ Some n → m < n
marks_rise s es k l m n less here there = all_rise s 0 es k l m n less here there

-- ---- a mark finds its entry

abbrev Finds : Side → ℕ → List ℕ → List Entry → List Event → Type 0
Finds s n ns entries es = (k i : ℕ) → slice_get ns k ≡ Some (n + i) → slice_get es i ≡ option_map (event_at s) (slice_get entries k)

one_more : (n i : ℕ) → n + suc i ≡ suc n + i
one_more n i = omega arith

first_place : (n i : ℕ) → n ≡ n + i → i ≡ 0
first_place n i is = omega (arith, is)

-- of the first event's own side, and of the other
finds_own : (s : Side) (n : ℕ) (e : Entry) (ns : List ℕ) (entries : List Entry) (es : List Event) → AreFrom (suc n) ns → Finds s (suc n) ns entries es → Finds s n (n ∷ ns) (e ∷ entries) (event_at s e ∷ es)
finds_own s n e ns entries es later found zero i is = ap (λ j. slice_get (event_at s e ∷ es) j) (first_place n i (same_number n (n + i) is))
finds_own s n e ns entries es later found (suc k) zero is = let over = later k (n + 0) is in absurd (omega (arith, over))
finds_own s n e ns entries es later found (suc k) (suc i) is = found k i (is ∙ ap (λ m. Some m) (one_more n i))

finds_other : (s : Side) (n : ℕ) (x : Event) (ns : List ℕ) (entries : List Entry) (es : List Event) → AreFrom (suc n) ns → Finds s (suc n) ns entries es → Finds s n ns entries (x ∷ es)
finds_other s n x ns entries es later found k zero is = let over = later k (n + 0) is in absurd (omega (arith, over))
finds_other s n x ns entries es later found k (suc i) is = found k i (is ∙ ap (λ m. Some m) (one_more n i))

finds_first : (s t : Side) (n : ℕ) (e : Entry) (es : List Event) → Finds s (suc n) (places_of s (suc n) es) (entries_of s es) es → Finds s n (places_of s n (event_at t e ∷ es)) (entries_of s (event_at t e ∷ es)) (event_at t e ∷ es)
unfolding places_of entries_of
finds_first A A n e es found = finds_own A n e (places_of A (suc n) es) (entries_of A es) es (from_there A (suc n) es) found
finds_first B B n e es found = finds_own B n e (places_of B (suc n) es) (entries_of B es) es (from_there B (suc n) es) found
finds_first A B n e es found = finds_other A n (event_at B e) (places_of A (suc n) es) (entries_of A es) es (from_there A (suc n) es) found
finds_first B A n e es found = finds_other B n (event_at A e) (places_of B (suc n) es) (entries_of B es) es (from_there B (suc n) es) found

finds_all : (s : Side) (n : ℕ) (es : List Event) → Finds s n (places_of s n es) (entries_of s es) es
unfolding places_of
finds_all s n [] k i is = absurd (cc)
finds_all s n (e ∷ es) k i is = finds_first s e.side n e.entry es (finds_all s (suc n) es) k i is

pub mark_finds : (s : Side) (es : List Event) (k n : ℕ) → slice_get (places_of s 0 es) k ≡ Some n → slice_get es n ≡ option_map (event_at s) (slice_get (entries_of s es) k)
mark_finds s es k n is = finds_all s 0 es k n (is ∙ ap (λ m. Some m) (from_zero n))
  where
    from_zero : (n : ℕ) → n ≡ 0 + n
    from_zero n = omega arith

-- ---- each has a mark

abbrev HasPlace : List ℕ → ℕ → Type 0
HasPlace ns n = (k : ℕ) × (slice_get ns k ≡ Some n)

one_behind : (n m : ℕ) (ns : List ℕ) (b : Bool) → HasPlace ns m → HasPlace (if b then n ∷ ns else ns) m
one_behind n m ns true h = (suc h.0, h.1)
one_behind n m ns false h = h

here_if : (n : ℕ) (ns : List ℕ) (b : Bool) → b ≡ true → HasPlace (if b then n ∷ ns else ns) (n + 0)
here_if n ns true is = (0, ap (λ m. Some m) (plus_none n))
  where
    plus_none : (n : ℕ) → n ≡ n + 0
    plus_none n = omega arith
here_if n ns false is = absurd (cc)

all_marked : (n : ℕ) (es : List Event) (i : ℕ) (e : Event) → slice_get es i ≡ Some e → HasPlace (places_of e.side n es) (n + i)
unfolding places_of
all_marked n [] i e is = absurd (cc)
all_marked n (f ∷ es) zero e is =
    here_if n (places_of e.side (suc n) es) (is_at e.side f.side) (ap (λ (x : Event). is_at e.side x.side) (same_event f e is) ∙ is_itself e.side)
all_marked n (f ∷ es) (suc i) e is =
    one_behind n (n + suc i) (places_of e.side (suc n) es) (is_at e.side f.side)
    (subst (HasPlace (places_of e.side (suc n) es)) (sym (one_more n i)) (all_marked (suc n) es i e is))

pub each_marked : (es : List Event) (n : ℕ) (e : Event) → slice_get es n ≡ Some e → HasPlace (places_of e.side 0 es) n
each_marked es n e is = subst (HasPlace (places_of e.side 0 es)) (none_before n) (all_marked 0 es n e is)
  where
    none_before : (n : ℕ) → 0 + n ≡ n
    none_before n = omega arith
