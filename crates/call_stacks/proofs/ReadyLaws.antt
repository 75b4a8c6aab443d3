-- The stacks that can go on, from a birth on.
use Rattle.std.proofs.Common.{◌≡◌, ℕ, suc, ◌+◌, ◌-◌, ◌<◌, ◌≤◌, Bool, true, false, cond, List, [], ◌∷◌, Option, None, Some, IsSome, option_map, ◌^◌, refl, sym, ap, ◌∙◌, inl, inr, arith}
use Rattle.std.specs.Prelude.{◌&&◌, leb}
use Rattle.std.proofs.lemmas.Bool.{cases_eq, cases_lt, cases_order, le-leb, lt-leb}
use Rattle.birth_index.specs.Bits.{has}
use Rattle.birth_index.specs.Members.{IsFirst, NoneFrom}
use Rattle.plan_model.specs.Frames as plain
use Rattle.plan_model.specs.Frames.{first_frame, is_body, nth_tid, ready}
use Rattle.call_stacks.specs.Rows.{Rise, Rows, stacks_of, stack_at, frames_in}
use Rattle.call_stacks.specs.Tops.{ready_at, HasTops}
use Rattle.call_stacks.proofs.TopLaws.{at_first, at_later, none_before, birth_within}

abbrev pub goes_on : plain.Stack → Bool
goes_on s = is_body (first_frame s.frames)

-- the stacks from a birth on that can go on
abbrev pub ready_from : ℕ → Rows → List plain.Stack
ready_from from [] = []
ready_from from (r ∷ rs) = cond (leb from r.0 && goes_on r.1) (r.1 ∷ ready_from from rs) (ready_from from rs)

module _ (from : ℕ) (r : ℕ × plain.Stack) (rs : Rows) where
  left_out_below : r.0 < from → ready_from from (r ∷ rs) ≡ ready_from from rs
  left_out_below below = ap (λ b. cond (b && goes_on r.1) (r.1 ∷ ready_from from rs) (ready_from from rs)) (lt-leb from r.0 below)

  kept_from : from ≤ r.0 → ready_from from (r ∷ rs) ≡ cond (goes_on r.1) (r.1 ∷ ready_from from rs) (ready_from from rs)
  kept_from behind = ap (λ b. cond (b && goes_on r.1) (r.1 ∷ ready_from from rs) (ready_from from rs)) (le-leb from r.0 behind)

  -- what is not ready is left out
  left_out : (from ≤ r.0 → ready_at r.0 (r ∷ rs) ≡ false) → ready_from from (r ∷ rs) ≡ ready_from from rs
  left_out none =
      elim (cases_lt r.0 from) [
        | inl below ↦ left_out_below below
        | inr behind ↦ kept_from behind ∙ ap (λ b. cond b (r.1 ∷ ready_from from rs) (ready_from from rs)) (sym (ap (λ s. is_body (first_frame (frames_in s))) (at_first r.0 r rs refl)) ∙ none behind)
      ]

pub all_ready : (rows : Rows) → ready_from 0 rows ≡ ready (stacks_of rows)
all_ready [] = refl
all_ready (r ∷ rs) = kept_from 0 r rs (omega arith) ∙ ap (λ ss. cond (goes_on r.1) (r.1 ∷ ss) ss) (all_ready rs)

-- where all births are as late, it is all the same
same_from : (from to least next : ℕ) (rows : Rows) → Rise least rows next → from ≤ least → to ≤ least → ready_from from rows ≡ ready_from to rows
same_from from to least next [] rise before behind = refl
same_from from to least next (r ∷ rs) rise before behind =
    let first = rise.0 in
    kept_from from r rs (omega (arith, first, before))
    ∙ ap (λ ss. cond (goes_on r.1) (r.1 ∷ ss) ss) (same_from from to (suc r.0) next rs rise.1 (omega (arith, first, before)) (omega (arith, first, behind)))
    ∙ sym (kept_from to r rs (omega (arith, first, behind)))

-- a birth that is not ready is not so behind the first row
none_later : (k next : ℕ) (r : ℕ × plain.Stack) (rs : Rows) → Rise (suc r.0) rs next → ready_at k (r ∷ rs) ≡ false → ready_at k rs ≡ false
none_later k next r rs rise none =
    elim (cases_eq k r.0) [
      | inl same ↦ ap (λ s. is_body (first_frame (frames_in s))) (none_before k (suc r.0) next rs rise (omega (arith, same)))
      | inr other ↦ sym (ap (λ s. is_body (first_frame (frames_in s))) (at_later k r rs other)) ∙ none
    ]

pub none_ready : (from least next : ℕ) (rows : Rows) → Rise least rows next → ((k : ℕ) → from ≤ k → ready_at k rows ≡ false) → ready_from from rows ≡ []
none_ready from least next [] rise none = refl
none_ready from least next (r ∷ rs) rise none =
    left_out from r rs (none r.0) ∙ none_ready from (suc r.0) next rs rise.1 (λ k behind. none_later k next r rs rise.1 (none k behind))

-- the first that is ready, and those behind it
pub next_ready : (from n least next : ℕ) (s : plain.Stack) (rows : Rows) → Rise least rows next → stack_at n rows ≡ Some s → goes_on s ≡ true → from ≤ n → ((k : ℕ) → from ≤ k → k < n → ready_at k rows ≡ false) → ready_from from rows ≡ s ∷ ready_from (n + 1) rows
next_ready from n least next s [] rise there on behind none = let bad : ⊥ = cc in absurd bad
next_ready from n least next s (r ∷ rs) rise there on behind none =
    elim (cases_order r.0 n) as (λ _. ready_from from (r ∷ rs) ≡ s ∷ ready_from (n + 1) (r ∷ rs)) [
      | inl same ↦
          let found : Some r.1 ≡ Some s = sym (at_first n r rs (sym same)) ∙ there in
          let one : r.1 ≡ s = cc in
          kept_from from r rs (omega (arith, same, behind))
          ∙ ap (λ b. cond b (r.1 ∷ ready_from from rs) (ready_from from rs)) (ap goes_on one ∙ on)
          ∙ ap (λ ss. r.1 ∷ ss) (same_from from (n + 1) (suc r.0) next rs rise.1 (omega (arith, same, behind)) (omega (arith, same)))
          ∙ ap (λ x. x ∷ ready_from (n + 1) rs) one
          ∙ ap (λ ss. s ∷ ss) (sym (left_out_below (n + 1) r rs (omega (arith, same))))
      | inr (inl below) ↦
          left_out from r rs (λ before. none r.0 before below)
          ∙ next_ready from n (suc r.0) next s rs rise.1 (sym (at_later n r rs (λ same. omega (arith, same, below))) ∙ there) on behind (λ k from_k k_below. none_later k next r rs rise.1 (none k from_k k_below))
          ∙ ap (λ ss. s ∷ ss) (sym (left_out_below (n + 1) r rs (omega (arith, below))))
      | inr (inr above) ↦
          let gone = at_later n r rs (λ same. omega (arith, same, above)) ∙ none_before n (suc r.0) next rs rise.1 (omega (arith, above)) in
          let clash : None ≡ Some s = sym gone ∙ there in
          let bad : ⊥ = cc in
          absurd bad
    ]

-- ---- one step by the index

-- a stack that is ready is there
there : (o : Option plain.Stack) → is_body (first_frame (frames_in o)) ≡ true → IsSome o
there None on = let bad : ⊥ = cc in absurd bad
there (Some s) on = refl

module _ (rows : Rows) (flags : List Bool) (waiting from : ℕ) (tops : HasTops rows flags waiting) where
  pub none_nth : NoneFrom (has flags) from → (left : ℕ) → None ≡ nth_tid (ready_from from rows) left
  none_nth none left = sym (ap (λ ss. nth_tid ss left) (none_ready from 0 (2 ^ 64 - 1) rows tops.rise (λ k behind. sym (tops.births k) ∙ none k behind)))

  module _ (birth : ℕ) (first : IsFirst (has flags) from birth) where
    pub birth_small : birth < 2 ^ 64 - 1
    birth_small = birth_within birth 0 (2 ^ 64 - 1) rows tops.rise (there (stack_at birth rows) (sym (tops.births birth) ∙ first.member))

    next_in : (o : Option plain.Stack) → stack_at birth rows ≡ o → IsSome o → (left : ℕ) → (nth_tid (ready_from from rows) 0 ≡ option_map (λ s. s.tid) o) × (nth_tid (ready_from from rows) (suc left) ≡ nth_tid (ready_from (birth + 1) rows) left)
    next_in None is some left = let bad : ⊥ = cc in absurd bad
    next_in (Some s) is some left =
        let on : goes_on s ≡ true = sym (ap (λ o. is_body (first_frame (frames_in o))) is) ∙ sym (tops.births birth) ∙ first.member in
        let more = next_ready from birth 0 (2 ^ 64 - 1) s rows tops.rise is on first.behind (λ k behind below. sym (tops.births k) ∙ first.first k behind below) in
        (ap (λ ss. nth_tid ss 0) more, ap (λ ss. nth_tid ss (suc left)) more)

    is_there : IsSome (stack_at birth rows)
    is_there = there (stack_at birth rows) (sym (tops.births birth) ∙ first.member)

    pub first_nth : (left : ℕ) → left ≡ 0 → option_map (λ s. s.tid) (stack_at birth rows) ≡ nth_tid (ready_from from rows) left
    first_nth left is = sym (next_in (stack_at birth rows) refl is_there 0).0 ∙ ap (nth_tid (ready_from from rows)) (sym is)

    pub later_nth : (left : ℕ) → ¬ (left ≡ 0) → nth_tid (ready_from (birth + 1) rows) (left - 1) ≡ nth_tid (ready_from from rows) left
    later_nth left other =
        sym (next_in (stack_at birth rows) refl is_there (left - 1)).1 ∙ ap (nth_tid (ready_from from rows)) (let same : suc (left - 1) ≡ left = omega (arith, other) in same)
