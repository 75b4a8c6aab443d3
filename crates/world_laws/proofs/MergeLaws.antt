-- The events of two ends are what their entries and the places of B's are put together to; an event more stands behind all.
use Rattle.std.proofs.Common.{◌≡◌, refl, sym, ap, ◌∙◌, subst, ℕ, suc, ◌+◌, Bool, true, false, List, [], ◌∷◌, ◌++◌, length, take, drop, arith, if◌then◌else◌}
use Rattle.std.proofs.lemmas.List.{append_assoc, append-nil, length-append, drop_at}
use Rattle.bridge_model.specs.Entries.{Entry}
use Rattle.world_model.specs.Worlds.{Event, entries_of, is_at}
use Rattle.world_model.specs.declared.side.Side.{Side}
use Rattle.world_model.specs.declared.side.Side.TheVariants.{A, B}
use Rattle.world_laws.proofs.RunLaws.{a_pushed, a_same, b_pushed, b_same}
use Rattle.world_laws.specs.Merging.{event_at, events_at, put_in, places_of, AreMerged}

front_at : {X : Type 0} (p q : List X) (n : ℕ) → length p ≡ n → take n (p ++ q) ≡ p
front_at [] q n is = subst (λ n. take n q ≡ []) is refl
front_at (x ∷ p) q n is = subst (λ n. take n (x ∷ p ++ q) ≡ x ∷ p) is (ap (λ xs. x ∷ xs) (front_at p q (length p) refl))

one_longer : {X : Type 0} (p : List X) (x : X) (n : ℕ) → length p ≡ n → length (p ++ x ∷ []) ≡ suc n
one_longer p x n is = let long = length-append p (x ∷ []) in omega arith

-- an entry put where those before it end
put_here : (n : ℕ) (ns : List ℕ) (e : Entry) (es : List Entry) (p q : List Event) → length p ≡ n → put_in (n ∷ ns) (e ∷ es) (p ++ q) ≡ put_in ns es ((p ++ event_at B e ∷ []) ++ q)
unfolding put_in
put_here n ns e es p q is =
    ap (λ front. put_in ns es (front ++ (event_at B e ∷ drop n (p ++ q)))) (front_at p q n is)
    ∙ (ap (λ rest. put_in ns es (p ++ (event_at B e ∷ rest))) (drop_at p q n is) ∙ ap (put_in ns es) (sym (append_assoc p (event_at B e ∷ []) q)))

one_merges : (p : List Event) (s : Side) (e : Entry) (es : List Event) (n : ℕ) → length p ≡ n
    → ((q : List Event) → length q ≡ suc n → put_in (places_of B (suc n) es) (entries_of B es) (q ++ events_at A (entries_of A es)) ≡ q ++ es)
    → put_in (places_of B n (event_at s e ∷ es)) (entries_of B (event_at s e ∷ es)) (p ++ events_at A (entries_of A (event_at s e ∷ es))) ≡ p ++ (event_at s e ∷ es)
unfolding places_of entries_of
one_merges p A e es n is merged =
    ap (put_in (places_of B (suc n) es) (entries_of B es)) (sym (append_assoc p (event_at A e ∷ []) (events_at A (entries_of A es))))
    ∙ (merged (p ++ event_at A e ∷ []) (one_longer p (event_at A e) n is) ∙ append_assoc p (event_at A e ∷ []) es)
one_merges p B e es n is merged =
    put_here n (places_of B (suc n) es) e (entries_of B es) p (events_at A (entries_of A es)) is
    ∙ (merged (p ++ event_at B e ∷ []) (one_longer p (event_at B e) n is) ∙ append_assoc p (event_at B e ∷ []) es)

merges : (p es : List Event) (n : ℕ) → length p ≡ n → put_in (places_of B n es) (entries_of B es) (p ++ events_at A (entries_of A es)) ≡ p ++ es
unfolding put_in places_of entries_of
merges p [] n is = refl
merges p (e ∷ es) n is = one_merges p e.side e.entry es n is (λ q long. merges q es (suc n) long)

-- events are what the entries of both, and the places of B's, are put together to
pub merged_again : (es : List Event) → put_in (places_of B 0 es) (entries_of B es) (events_at A (entries_of A es)) ≡ es
merged_again es = merges [] es 0 refl

-- ---- an event more

-- the place of an event that stands behind all is how many there were: the places of its side are one more, and those of the other are as they were
place_more : (b : Bool) (n : ℕ) (more rest longer : List ℕ) → longer ≡ rest ++ more → (if b then n ∷ longer else longer) ≡ (if b then n ∷ rest else rest) ++ more
place_more true n more rest longer is = ap (λ ns. n ∷ ns) is
place_more false n more rest longer is = is

from_nothing : (n : ℕ) → 0 + n ≡ n
from_nothing n = omega arith

places_of_one : (s : Side) (n : ℕ) (es : List Event) (m : ℕ) → n + length es ≡ m → (x : Event) → places_of s n (es ++ x ∷ []) ≡ places_of s n es ++ places_of s m (x ∷ [])
unfolding places_of
places_of_one s n [] m is x = let same : n ≡ m = omega arith in subst (λ m. places_of s n (x ∷ []) ≡ places_of s m (x ∷ [])) same refl
places_of_one s n (y ∷ es) m is x =
    let long : suc n + length es ≡ m = omega arith in
    place_more (is_at s y.side) n (places_of s m (x ∷ [])) (places_of s (suc n) es) (places_of s (suc n) (es ++ x ∷ [])) (places_of_one s (suc n) es m long x)

pub places_a_a : (es : List Event) (e : Entry) → places_of A 0 (es ++ event_at A e ∷ []) ≡ places_of A 0 es ++ length es ∷ []
unfolding places_of
places_a_a es e = places_of_one A 0 es (length es) (from_nothing (length es)) (event_at A e)

pub places_a_b : (es : List Event) (e : Entry) → places_of A 0 (es ++ event_at B e ∷ []) ≡ places_of A 0 es
unfolding places_of
places_a_b es e = places_of_one A 0 es (length es) (from_nothing (length es)) (event_at B e) ∙ append-nil (places_of A 0 es)

pub places_b_a : (es : List Event) (e : Entry) → places_of B 0 (es ++ event_at A e ∷ []) ≡ places_of B 0 es
unfolding places_of
places_b_a es e = places_of_one B 0 es (length es) (from_nothing (length es)) (event_at A e) ∙ append-nil (places_of B 0 es)

pub places_b_b : (es : List Event) (e : Entry) → places_of B 0 (es ++ event_at B e ∷ []) ≡ places_of B 0 es ++ length es ∷ []
unfolding places_of
places_b_b es e = places_of_one B 0 es (length es) (from_nothing (length es)) (event_at B e)

-- each event is one of A or one of B
one_length : (s : Side) (e : Entry) (es : List Event) → length es ≡ length (entries_of A es) + length (entries_of B es)
    → suc (length es) ≡ length (entries_of A (event_at s e ∷ es)) + length (entries_of B (event_at s e ∷ es))
unfolding entries_of
one_length A e es is = omega arith
one_length B e es is = omega arith

pub lengths_both : (es : List Event) → length es ≡ length (entries_of A es) + length (entries_of B es)
unfolding entries_of
lengths_both [] = refl
lengths_both (e ∷ es) = one_length e.side e.entry es (lengths_both es)

-- ---- two journals with their marks

module _ (es : List Event) (a b : List Entry) (at_a at_b : List ℕ) (are : AreMerged es a b at_a at_b) where
  -- they have one history, and so it is the one that they are put together to
  pub marks_tell : put_in at_b b (events_at A a) ≡ es
  marks_tell =
      ap (λ ns. put_in ns b (events_at A a)) are.marks_b
      ∙ (ap (λ xs. put_in (places_of B 0 es) xs (events_at A a)) (sym are.entries_b)
      ∙ (ap (λ xs. put_in (places_of B 0 es) (entries_of B es) (events_at A xs)) (sym are.entries_a) ∙ merged_again es))

  pub how_many : length es ≡ length a + length b
  how_many = lengths_both es ∙ (ap (λ xs. length xs + length (entries_of B es)) are.entries_a ∙ ap (λ xs. length a + length xs) are.entries_b)

  -- an entry more, which is marked with how many there were, stands behind all
  pub more_of_a : (e : Entry) → AreMerged (es ++ event_at A e ∷ []) (a ++ e ∷ []) b (at_a ++ length es ∷ []) at_b
  more_of_a e =
      record {
        entries_a = a_pushed es e ∙ ap (λ xs. xs ++ e ∷ []) are.entries_a;
        entries_b = b_same es e ∙ are.entries_b;
        marks_a = ap (λ ns. ns ++ length es ∷ []) are.marks_a ∙ sym (places_a_a es e);
        marks_b = are.marks_b ∙ sym (places_b_a es e);
      }

  pub more_of_b : (e : Entry) → AreMerged (es ++ event_at B e ∷ []) a (b ++ e ∷ []) at_a (at_b ++ length es ∷ [])
  more_of_b e =
      record {
        entries_a = a_same es e ∙ are.entries_a;
        entries_b = b_pushed es e ∙ ap (λ xs. xs ++ e ∷ []) are.entries_b;
        marks_a = are.marks_a ∙ sym (places_a_b es e);
        marks_b = ap (λ ns. ns ++ length es ∷ []) are.marks_b ∙ sym (places_b_b es e);
      }

pub none_merged : AreMerged [] [] [] [] []
unfolding entries_of places_of
none_merged = record { entries_a = refl; entries_b = refl; marks_a = refl; marks_b = refl }
