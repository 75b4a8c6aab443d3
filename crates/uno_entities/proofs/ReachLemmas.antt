-- A search lists what it marks, and the marks are taken back place by place.
use Rattle.std.proofs.Common.{◌≡◌, ◌≢◌, ℕ, zero, suc, ◌+◌, ◌<◌, ◌≤◌, Bool, true, false, List, [], ◌∷◌, ◌++◌, length, set, take, drop, get_or, replicate}
use Rattle.std.proofs.Common.{None, Some, refl, sym, ap, subst, ◌∙◌, ◌⊎◌, inl, inr, arith}
use Rattle.std.specs.Prelude.{slice_get, Contains}
use Rattle.std.proofs.lemmas.Bool.{cases_eq}
use Rattle.std.proofs.lemmas.List.{length-set, length-replicate, at_drop_more, drop_all, take-append-drop}
use Rattle.std.proofs.lemmas.List.Elements.{Contains-append_left, Contains-append_right, Contains-push, Contains-push_cases, Contains-append_cases}
use Rattle.std.proofs.lemmas.Option.{slice_get_within}
use Rattle.uno_model.specs.Entities.{Entity}
use Rattle.uno_entities.specs.Marks.{Marked}
use Rattle.uno_entities.specs.Reaching.{AreWithin, Covers, Lists, MarksMore}
use Rattle.uno_entities.specs.Spreading.{Spreads}
use Rattle.uno_entities.proofs.SpreadLemmas.{replicate_unmarked, set_marked, only_start}

-- ---- marks that are set and taken back

-- another place keeps its mark
pub mark_apart : (marks : List Bool) (p i : ℕ) (mark : Bool) → i ≢ p → slice_get (set marks p mark) i ≡ slice_get marks i
mark_apart [] p i mark other = refl
mark_apart (m ∷ marks) zero zero mark other = absurd (other refl)
mark_apart (m ∷ marks) zero (suc i) mark other = refl
mark_apart (m ∷ marks) (suc p) zero mark other = refl
mark_apart (m ∷ marks) (suc p) (suc i) mark other = mark_apart marks p i mark (λ e. other (ap suc e))

-- a mark that is taken back is none
not_marked : (marks : List Bool) (p : ℕ) → Marked (set marks p false) p → ⊥
not_marked [] p m = let bad : None ≡ Some true = m in cc
not_marked (x ∷ marks) zero m = let bad : Some false ≡ Some true = m in cc
not_marked (x ∷ marks) (suc p) m = not_marked marks p m

-- where nothing is marked each mark is the same
pub no_mark : (marks : List Bool) → ((i : ℕ) → Marked marks i → ⊥) → marks ≡ replicate (length marks) false
no_mark [] none = refl
no_mark (true ∷ marks) none = absurd (none 0 refl)
no_mark (false ∷ marks) none = ap (λ ms. false ∷ ms) (no_mark marks (λ i m. none (suc i) m))

-- ---- the way along the list

-- what is marked lies ahead, from an index on
abbrev pub IsAhead : List Bool → List ℕ → ℕ → Type 0
IsAhead marks places index = (i : ℕ) → Marked marks i → Contains (drop index places) i

-- the place at the index, or one further on
parted : (places : List ℕ) (index d i : ℕ) → index < length places → Contains (drop index places) i → (get_or places index d ≡ i) ⊎ Contains (drop (index + 1) places) i
parted places index d i within has =
    let next = get_or places index d in
    let split = subst (λ (ps : List ℕ). Contains ps i) (at_drop_more (λ (ps : List ℕ). ps) places index d within) has in
    elim (Contains-append_cases (next ∷ []) (drop (index + 1) places) i split) [ inl here ↦ inl (only_start next i (next ∷ []) refl here) | inr on ↦ inr on ]

-- one mark is taken back
ahead_step : (marks : List Bool) (places : List ℕ) (index d : ℕ) → index < length places → IsAhead marks places index
    → IsAhead (set marks (get_or places index d) false) places (index + 1)
ahead_step marks places index d within ahead i m = by_place (cases_eq i next)
  where
    next : ℕ
    next = get_or places index d

    by_place : (i ≡ next) ⊎ (i ≢ next) → Contains (drop (index + 1) places) i
    by_place (inl same) = absurd (not_marked marks next (subst (Marked (set marks next false)) same m))
    by_place (inr other) = elim (parted places index d i within (ahead i (sym (mark_apart marks next i false other) ∙ m))) [
      | inl here ↦ absurd (other (sym here))
      | inr on ↦ on
    ]

-- at the end nothing is marked
pub ahead_end : (marks : List Bool) (places : List ℕ) (index count : ℕ) → length places ≤ index → length marks ≡ count → IsAhead marks places index
    → marks ≡ replicate count false
ahead_end marks places index count over long ahead =
    no_mark marks (λ i m. none i (subst (λ (ps : List ℕ). Contains ps i) (drop_all index places over) (ahead i m))) ∙ ap (λ n. replicate n false) long
  where
    none : (i : ℕ) → Contains [] i → ⊥
    none i has = omega (arith, has.1)

-- what lies ahead is in the list
pub still_covered : (marks : List Bool) (now places : List ℕ) (index count : ℕ) → now ≡ places → IsAhead marks places index → AreWithin places count → length marks ≡ count
    → Covers marks now
still_covered marks now places index count same ahead within long =
    subst (Covers marks) (sym same) (record {
      listed = λ i m. subst (λ (ps : List ℕ). Contains ps i) (take-append-drop index places) (Contains-append_right (take index places) (drop index places) i (ahead i m));
      within = λ i has. omega (arith, within i has, long);
    })

-- each place in the list is one of the marks
place_within : (places : List ℕ) (count index d : ℕ) → AreWithin places count → index < length places → get_or places index d < count
place_within places count index d within low = within (get_or places index d) (contained places index d low)
  where
    contained : (ps : List ℕ) (k e : ℕ) → k < length ps → Contains ps (get_or ps k e)
    contained [] k e under = absurd (omega (arith, under))
    contained (p ∷ ps) zero e under = (0, omega arith, refl)
    contained (p ∷ ps) (suc k) e under = let there = contained ps k e (omega (arith, under)) in (suc there.0, omega (arith, there.1), there.2)

-- the same of what was read there
pub place_read : (now places : List ℕ) (count index p : ℕ) → now ≡ places → AreWithin places count → index < length places → p ≡ get_or now index p → p < count
place_read now places count index p same within low is =
    subst (λ k. k < count) (sym (is ∙ ap (λ ps. get_or ps index p) same)) (place_within places count index p within low)

pub ahead_read : (marks : List Bool) (now places : List ℕ) (index p : ℕ) → now ≡ places → index < length places → p ≡ get_or now index p → IsAhead marks places index
    → IsAhead (set marks p false) places (index + 1)
ahead_read marks now places index p same low is ahead =
    subst (λ k. IsAhead (set marks k false) places (index + 1)) (sym (is ∙ ap (λ ps. get_or ps index p) same)) (ahead_step marks places index p low ahead)

-- all that is marked is ahead at first
pub ahead_first : (marks : List Bool) (places : List ℕ) → Covers marks places → IsAhead marks places 0
ahead_first marks places covers i m = covers.listed i m

-- what is listed both ways is covered
pub lists_cover : (marks : List Bool) (places : List ℕ) → Lists marks places → Covers marks places
lists_cover marks places lists = record { listed = lists.listed; within = λ i has. slice_get_within marks i true (lists.marked i has) }

-- ---- what is marked besides

pub more_none : (places : List ℕ) (known : List Bool) → MarksMore places known known
more_none places known = record { long = refl; only = λ i m. inr m }

pub more_step : (places : List ℕ) (known marks : List Bool) (p : ℕ) → Contains places p → MarksMore places known marks → MarksMore places known (set marks p true)
more_step places known marks p has before = record { long = length-set marks p true ∙ before.long; only = λ i m. by_place i m (cases_eq i p) }
  where
    by_place : (i : ℕ) → Marked (set marks p true) i → (i ≡ p) ⊎ (i ≢ p) → Contains places i ⊎ Marked known i
    by_place i m (inl same) = inl (subst (Contains places) (sym same) has)
    by_place i m (inr other) = before.only i (sym (mark_apart marks p i true other) ∙ m)

-- ---- the search

-- what is pending is a place that is marked
abbrev pub IsWaiting : ℕ → List Bool → List ℕ → Type 0
IsWaiting count marks pending = (i : ℕ) → Contains pending i → (i < count) × Marked marks i

-- what is marked is pending or listed
abbrev pub IsListed : List Bool → List ℕ → List ℕ → Type 0
IsListed marks pending places = (i : ℕ) → Marked marks i → Contains pending i ⊎ Contains places i

-- what is listed is marked
abbrev pub ListsMarked : List Bool → List ℕ → Type 0
ListsMarked marks places = (i : ℕ) → Contains places i → Marked marks i

pub begins_waiting : (count p : ℕ) (marks : List Bool) (pending : List ℕ) → p < count → marks ≡ set (replicate count false) p true → pending ≡ p ∷ []
    → IsWaiting count marks pending
begins_waiting count p marks pending within is only i has =
    let here = only_start p i pending only has in
    subst (λ k. (k < count) × Marked marks k) here
    (within, subst (λ ms. Marked ms p) (sym is) (set_marked (replicate count false) p (omega (arith, within, length-replicate count false))))

pub begins_listed : (count p : ℕ) (marks : List Bool) (pending places : List ℕ) → marks ≡ set (replicate count false) p true → pending ≡ p ∷ []
    → IsListed marks pending places
begins_listed count p marks pending places is only i m = by_place (subst (λ ms. Marked ms i) is m) (cases_eq i p)
  where
    by_place : Marked (set (replicate count false) p true) i → (i ≡ p) ⊎ (i ≢ p) → Contains pending i ⊎ Contains places i
    by_place mark (inl same) = inl (subst (λ (ps : List ℕ). Contains ps i) (sym only) (0, omega arith, sym same))
    by_place mark (inr other) = absurd (replicate_unmarked count i (sym (mark_apart (replicate count false) p i true other) ∙ mark))

pub nothing_listed : (marks : List Bool) (places : List ℕ) → places ≡ [] → ListsMarked marks places
nothing_listed marks places none i has = absurd (bad (subst (λ (ps : List ℕ). Contains ps i) none has))
  where
    bad : Contains [] i → ⊥
    bad in_none = omega (arith, in_none.1)

pub waiting_step : (reg : List Entity) (names : List (List ℕ)) (count next : ℕ) (marks : List Bool) (rest : List ℕ) (marks_after : List Bool) (pending_after : List ℕ)
    → length reg ≡ count → Spreads reg names marks rest marks_after pending_after → IsWaiting count marks (rest ++ next ∷ []) → IsWaiting count marks_after pending_after
waiting_step reg names count next marks rest marks_after pending_after long spreads waiting i has = elim (spreads.places i has) [
  | inl old ↦ let was = waiting i (Contains-append_left rest (next ∷ []) i old) in (was.0, spreads.kept i was.1)
  | inr new ↦ (omega (arith, new.0, long), new.1)
]

pub listed_step : (reg : List Entity) (names : List (List ℕ)) (next : ℕ) (marks : List Bool) (rest places : List ℕ) (marks_after : List Bool) (pending_after : List ℕ)
    → Spreads reg names marks rest marks_after pending_after → IsListed marks (rest ++ next ∷ []) places → IsListed marks_after pending_after (places ++ next ∷ [])
listed_step reg names next marks rest places marks_after pending_after spreads listed i m = elim (spreads.added i m) [
  | inl old ↦ still (listed i old)
  | inr new ↦ inl new.0
]
  where
    still : Contains (rest ++ next ∷ []) i ⊎ Contains places i → Contains pending_after i ⊎ Contains (places ++ next ∷ []) i
    still (inl pending) = elim (Contains-push_cases rest next i pending) [
      | inl old ↦ inl (spreads.held i old)
      | inr here ↦ inr (subst (Contains (places ++ next ∷ [])) here (Contains-push places next))
    ]
    still (inr there) = inr (Contains-append_left places (next ∷ []) i there)

pub marked_step : (reg : List Entity) (names : List (List ℕ)) (count next : ℕ) (marks : List Bool) (rest places : List ℕ) (marks_after : List Bool) (pending_after : List ℕ)
    → Spreads reg names marks rest marks_after pending_after → IsWaiting count marks (rest ++ next ∷ []) → ListsMarked marks places
    → ListsMarked marks_after (places ++ next ∷ [])
marked_step reg names count next marks rest places marks_after pending_after spreads waiting marked i has = elim (Contains-push_cases places next i has) [
  | inl old ↦ spreads.kept i (marked i old)
  | inr here ↦ spreads.kept i (subst (Marked marks) here (waiting next (Contains-push rest next)).1)
]

pub all_listed : (marks : List Bool) (pending places : List ℕ) → pending ≡ [] → IsListed marks pending places → ListsMarked marks places → Lists marks places
all_listed marks pending places none listed marked = record { listed = λ i m. by_list i (listed i m); marked = marked }
  where
    by_list : (i : ℕ) → Contains pending i ⊎ Contains places i → Contains places i
    by_list i (inl waits) = let bad = subst (λ (ps : List ℕ). Contains ps i) none waits in absurd (omega (arith, bad.1))
    by_list i (inr there) = there

-- what is listed and marked is within as many as there are marks
pub listed_within : (marks : List Bool) (places listed : List ℕ) (long count : ℕ) → Lists marks listed → places ≡ listed → length marks ≡ long → count ≡ long
    → AreWithin places count
listed_within marks places listed long count lists same is as_many i has =
    omega (arith, slice_get_within marks i true (lists.marked i (subst (λ (ps : List ℕ). Contains ps i) same has)), is, as_many)
