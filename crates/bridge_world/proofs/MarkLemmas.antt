-- The entry of two ends at a place is that of the end which has this mark.
use Rattle.std.proofs.Common.{◌≡◌, ◌≢◌, ◌⊎◌, inl, inr, refl, sym, ap, ◌∙◌, subst, ℕ, zero, suc, ◌<◌, ◌≤◌, List, [], ◌∷◌, length, get_or, map, slice_get, Option, None, Some, IfNone, IfSome, IsSome, Ok, Err, arith}
use Rattle.std.proofs.lemmas.Bool.{false≢true}
use Rattle.std.proofs.lemmas.List.{length-map}
use Rattle.std.proofs.lemmas.List.Sorted.{searched}
use Rattle.std.specs.Borrow.{Bor}
use Rattle.std.specs.List.Sorted.{IsBinarySearchResult}
use Rattle.std.specs.Option.{option_map}
use Rattle.std.specs.Ordering.{nat_cmp}
use Rattle.bridge_journal.specs.Logs.{entry_of}
use Rattle.bridge_journal.specs.declared.entry.Entry.{Entry as Kept}
use Rattle.bridge_endpoint.specs.Journals.{Endpoint}
use Rattle.bridge_model.specs.Entries.{Entry}
use Rattle.world_laws.proofs.MarkLaws.{each_marked, mark_finds, marks_rise}
use Rattle.world_laws.specs.Merging.{event_at, places_of}
use Rattle.world_model.specs.Worlds.{Event, entries_of}
use Rattle.world_model.specs.declared.side.Side.{Side}
use Rattle.world_model.specs.declared.side.Side.TheVariants.{A, B}
use Rattle.bridge_world.specs.Joined.{joined}
use Rattle.bridge_world.specs.Marks.{IsMarked, Rise}
use Rattle.bridge_world.specs.Worlds.{IsWorld}
use Rattle.bridge_world.proofs.StepLaws.{map_there}

-- ---- marks rise

pub there : (xs : List ℕ) (i : ℕ) → i < length xs → slice_get xs i ≡ Some (get_or xs i 0)
there [] i less = let bad : ⊥ = omega arith in absurd bad
there (x ∷ xs) zero less = refl
there (x ∷ xs) (suc i) less = let tail : i < length xs = omega arith in there xs i tail

less_or_same : (i j : ℕ) → i ≤ j → (i < j) ⊎ (i ≡ j)
less_or_same zero zero most = inr refl
less_or_same zero (suc j) most = inl (omega arith)
less_or_same (suc i) zero most = let bad : ⊥ = omega arith in absurd bad
less_or_same (suc i) (suc j) most = more (less_or_same i j (omega (arith, most)))
  where
    more : (i < j) ⊎ (i ≡ j) → (suc i < suc j) ⊎ (suc i ≡ suc j)
    more (inl less) = inl (omega (arith, less))
    more (inr same) = inr (ap suc same)

module _ (s : Side) (es : List Event) where
  by_order : (i j : ℕ) → j < length (places_of s 0 es) → (i < j) ⊎ (i ≡ j) → get_or (places_of s 0 es) i 0 ≤ get_or (places_of s 0 es) j 0
  by_order i j within (inl less) =
      let ns = places_of s 0 es in
      let first : i < length ns = omega (arith, less, within) in
      let up : get_or ns i 0 < get_or ns j 0 = marks_rise s es i j (get_or ns i 0) (get_or ns j 0) less (there ns i first) (there ns j within) in
      omega (arith, up)
  by_order i j within (inr same) =
      let equal : get_or (places_of s 0 es) i 0 ≡ get_or (places_of s 0 es) j 0 = ap (λ k. get_or (places_of s 0 es) k 0) same in
      omega (arith, equal)

  places_rise : Rise (places_of s 0 es)
  places_rise i j most within = by_order i j within (less_or_same i j most)

-- ---- the entry with a mark

-- found by what is told
pub is_there : {X Y : Type 0} (f : X → Y) (xs : List X) (o : Option Y) (k : ℕ) (x : X) → slice_get xs k ≡ Some x → o ≡ option_map f (slice_get xs k) → o ≡ Some (f x)
is_there f xs o k x at is = is ∙ ap (option_map f) at

none_at : (o : Option Event) → ((e : Event) → o ≡ Some e → ⊥) → o ≡ None
none_at None none = refl
none_at (Some e) none = absurd (none e refl)

module _ (a b : Endpoint) (to_a to_b : List ℕ) (is : IsWorld a b to_a to_b) where
  pub rise_a : Rise a.stamps
  rise_a = subst Rise (sym is.merged.marks_a) (places_rise A (joined a b).events)

  pub rise_b : Rise b.stamps
  rise_b = subst Rise (sym is.merged.marks_b) (places_rise B (joined a b).events)

  pub found_a : (n : ℕ) (x : Entry) → IsMarked a n x → Some (event_at A x) ≡ slice_get (joined a b).events n
  found_a n x found =
      sym (is_there (event_at A) (entries_of A (joined a b).events) (slice_get (joined a b).events n) found.place x
      (ap (λ (es : List Entry). slice_get es found.place) is.merged.entries_a ∙ found.entry_there)
      (mark_finds A (joined a b).events found.place n (ap (λ (ns : List ℕ). slice_get ns found.place) (sym is.merged.marks_a) ∙ found.mark_there)))

  pub found_b : (n : ℕ) (x : Entry) → IsMarked b n x → Some (event_at B x) ≡ slice_get (joined a b).events n
  found_b n x found =
      sym (is_there (event_at B) (entries_of B (joined a b).events) (slice_get (joined a b).events n) found.place x
      (ap (λ (es : List Entry). slice_get es found.place) is.merged.entries_b ∙ found.entry_there)
      (mark_finds B (joined a b).events found.place n (ap (λ (ns : List ℕ). slice_get ns found.place) (sym is.merged.marks_b) ∙ found.mark_there)))

  has_mark : (n : ℕ) → ((k : ℕ) → slice_get a.stamps k ≢ Some n) → ((k : ℕ) → slice_get b.stamps k ≢ Some n) → (s : Side) (k : ℕ) → slice_get (places_of s 0 (joined a b).events) k ≡ Some n → ⊥
  has_mark n none_a none_b A k at = none_a k (ap (λ (ns : List ℕ). slice_get ns k) is.merged.marks_a ∙ at)
  has_mark n none_a none_b B k at = none_b k (ap (λ (ns : List ℕ). slice_get ns k) is.merged.marks_b ∙ at)

  pub found_none : (n : ℕ) → ((k : ℕ) → slice_get a.stamps k ≢ Some n) → ((k : ℕ) → slice_get b.stamps k ≢ Some n) → None ≡ slice_get (joined a b).events n
  found_none n none_a none_b =
      sym (none_at (slice_get (joined a b).events n) (λ e at. let place = each_marked (joined a b).events n e at in has_mark n none_a none_b e.side place.0 place.1))

-- ---- what a search among rising marks finds

-- one is there
pub mark_is : (xs : List ℕ) (i x : ℕ) → i < length xs → get_or xs i 0 ≡ x → slice_get xs i ≡ Some x
mark_is xs i x within is = there xs i within ∙ ap Some is

within_there : (xs : List ℕ) (k x : ℕ) → slice_get xs k ≡ Some x → k < length xs
within_there [] k x at = absurd (cc)
within_there (y ∷ xs) zero x at = omega arith
within_there (y ∷ xs) (suc k) x at = let tail : k < length xs = within_there xs k x at in omega (arith, tail)

some_same : (m n : ℕ) → ◌≡◌ {A = Option ℕ} (Some m) (Some n) → m ≡ n
some_same m n is = cc

below_or : (k i : ℕ) → (k < i) ⊎ (i ≤ k)
below_or zero zero = inr (omega arith)
below_or zero (suc i) = inl (omega arith)
below_or (suc k) zero = inr (omega arith)
below_or (suc k) (suc i) = more (below_or k i)
  where
    more : (k < i) ⊎ (i ≤ k) → (suc k < suc i) ⊎ (suc i ≤ suc k)
    more (inl less) = inl (omega (arith, less))
    more (inr most) = inr (omega (arith, most))

-- or none is
module _ (xs : List ℕ) (i x : ℕ) (below : (k : ℕ) → k < i → get_or xs k 0 < x) (above : (k : ℕ) → i ≤ k → k < length xs → x < get_or xs k 0) where
  not_at : (k : ℕ) → get_or xs k 0 ≡ x → k < length xs → (k < i) ⊎ (i ≤ k) → ⊥
  not_at k same within (inl less) = let up : get_or xs k 0 < x = below k less in omega (arith, same, up)
  not_at k same within (inr most) = let up : x < get_or xs k 0 = above k most within in omega (arith, same, up)

  pub no_mark : (k : ℕ) → slice_get xs k ≢ Some x
  no_mark k at =
      let within = within_there xs k x at in
      not_at k (some_same (get_or xs k 0) x (sym (there xs k within) ∙ at)) within (below_or k i)

-- so it is told of a search
pub searched_none : (e : Endpoint) (xs : List ℕ) (x i : ℕ) → xs ≡ e.stamps → Rise e.stamps → IsBinarySearchResult (λ y. nat_cmp y x) xs (Err i) → (k : ℕ) → slice_get e.stamps k ≢ Some x
searched_none e xs x i is rise found =
    let so = searched xs x (Err i) found (subst Rise (sym is) rise) in
    subst (λ (ns : List ℕ). (k : ℕ) → slice_get ns k ≢ Some x) is (no_mark xs i x so.1 so.2)

pub searched_at : (e : Endpoint) (xs : List ℕ) (x i : ℕ) → xs ≡ e.stamps → Rise e.stamps → IsBinarySearchResult (λ y. nat_cmp y x) xs (Ok i) → (i < length e.stamps) × (slice_get e.stamps i ≡ Some x)
searched_at e xs x i is rise found =
    let so = searched xs x (Ok i) found (subst Rise (sym is) rise) in
    subst (λ (ns : List ℕ). (i < length ns) × (slice_get ns i ≡ Some x)) is (so.0, mark_is xs i x so.0 so.1)

-- and the entry at that place is lent
module _ (e : Endpoint) (mark i : ℕ) (items : List Kept) (r : Option (Bor Kept)) (is : map entry_of items ≡ e.entries) (found : (i < length e.stamps) × (slice_get e.stamps i ≡ Some mark))
    (each : length e.stamps ≡ length e.entries) where
  within : i < length items
  within =
      let same : length e.entries ≡ length items = ap length (sym is) ∙ length-map items entry_of in
      let less = found.0 in
      omega (arith, less, each, same)

  pub lent_entry : IfSome r (λ x. x.now ≡ get_or items i x.now) → IfSome r (λ x. IsMarked e mark (entry_of x.now))
  lent_entry lent = by_answer r lent
    where
      by_answer : (o : Option (Bor Kept)) → IfSome o (λ x. x.now ≡ get_or items i x.now) → IfSome o (λ x. IsMarked e mark (entry_of x.now))
      by_answer None at = tt
      by_answer (Some x) at =
          record { place = i; mark_there = found.1; entry_there = ap (λ (es : List Entry). slice_get es i) (sym is) ∙ map_there entry_of items i x.now within at }

  pub lent_none : (i < length items → IsSome r) → IfNone r ((k : ℕ) → slice_get e.stamps k ≢ Some mark)
  lent_none some = by_answer r (some within)
    where
      by_answer : (o : Option (Bor Kept)) → IsSome o → IfNone o ((k : ℕ) → slice_get e.stamps k ≢ Some mark)
      by_answer None bad = absurd (false≢true bad)
      by_answer (Some x) lent = tt
