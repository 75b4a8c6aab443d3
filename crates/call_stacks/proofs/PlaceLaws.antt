-- The row of a TID is that of its birth.
use Rattle.std.proofs.Common.{◌≡◌, ℕ, suc, ◌<◌, ◌≤◌, true, false, cond, List, [], ◌∷◌, ◌++◌, length, Option, None, Some, option_map, IsSome, refl, ap, subst, ◌∙◌, inl, inr, arith}
use Rattle.std.specs.Prelude.{nat_eq, drop, if◌then◌else◌, ◌⊎◌, ◌||◌}
use Rattle.std.specs.Cmp.Lexicographic.{bytes_decides}
use Rattle.std.specs.List.{list_any}
use Rattle.std.proofs.lemmas.Bool.Decides.{nat_tests}
use Rattle.plan_model.specs.Frames as plain
use Rattle.plan_model.specs.Frames.{is_of, frames_of, pushed, popped, with_top, less_one, first_frame, outgoing_in}
use Rattle.call_stacks.specs.Rows.{AreAlone, Rise, Rows, stacks_of, birth_in, stack_at, frames_at, changed_at, without_at, begun, one_more, one_less, topped}
use Rattle.call_stacks.specs.WaitingCalls.{call_of, HaveOwnTids}
use Rattle.message_model.specs.Calls.{Waiting}

-- the first row of a TID is the row of a birth
abbrev pub IsPlace : List ℕ → ℕ → Rows → Type 0
IsPlace tid n [] = ⊥
IsPlace tid n (r ∷ rs) = ((is_of tid r.1 ≡ true) × (nat_eq n r.0 ≡ true)) ⊎ ((is_of tid r.1 ≡ false) × (nat_eq n r.0 ≡ false) × IsPlace tid n rs)

same_number : (n k : ℕ) → Some k ≡ Some n → nat_eq n k ≡ true
same_number n k same = let one : k ≡ n = cc in grind (arith, nat_tests)

other_number : (n k : ℕ) → k < n → nat_eq n k ≡ false
other_number n k below = grind (arith, nat_tests)

module _ (tid : List ℕ) (n next : ℕ) where
  -- a birth is among those that rise
  above : (least : ℕ) (rows : Rows) → Rise least rows next → birth_in tid rows ≡ Some n → least ≤ n
  above least [] rise is = let bad : ⊥ = cc in absurd bad
  above least (r ∷ rs) rise is =
      elim (is_of tid r.1) as (λ b. cond b (Some r.0) (birth_in tid rs) ≡ Some n → least ≤ n) [
        | true ↦ λ is. let one : r.0 ≡ n = cc in let first = rise.0 in omega (arith, one, first)
        | false ↦ λ is. let more = above (suc r.0) rs rise.1 is in let first = rise.0 in omega (arith, more, first)
      ] is

  -- a TID that has a birth has its row there
  pub place : (least : ℕ) (rows : Rows) → Rise least rows next → birth_in tid rows ≡ Some n → IsPlace tid n rows
  place least [] rise is = let bad : ⊥ = cc in absurd bad
  place least (r ∷ rs) rise is =
      elim (is_of tid r.1) as (λ b. is_of tid r.1 ≡ b → cond b (Some r.0) (birth_in tid rs) ≡ Some n → IsPlace tid n (r ∷ rs)) [
        | true ↦ λ here is. inl (here, same_number n r.0 is)
        | false ↦ λ other is. inr (other, other_number n r.0 (above (suc r.0) rs rise.1 is), place (suc r.0) rs rise.1 is)
      ] refl is

-- ---- what is found at a place

pub has_stack : (tid : List ℕ) (n : ℕ) (rows : Rows) → IsPlace tid n rows → IsSome (stack_at n rows)
has_stack tid n [] at = absurd at
has_stack tid n (r ∷ rs) (inl here) = rw here.1 refl
has_stack tid n (r ∷ rs) (inr there) = rw there.1 (has_stack tid n rs there.2)

pub place_frames : (tid : List ℕ) (n : ℕ) (rows : Rows) → IsPlace tid n rows → frames_at n rows ≡ frames_of tid (stacks_of rows)
unfolding frames_of
place_frames tid n [] at = absurd at
place_frames tid n (r ∷ rs) (inl here) = rw (here.0, here.1) refl
place_frames tid n (r ∷ rs) (inr there) = rw (there.0, there.1) (place_frames tid n rs there.2)

pub no_frames : (tid : List ℕ) (rows : Rows) → birth_in tid rows ≡ None → frames_of tid (stacks_of rows) ≡ []
unfolding frames_of
no_frames tid [] none = refl
no_frames tid (r ∷ rs) none =
    elim (is_of tid r.1) as (λ b. cond b (Some r.0) (birth_in tid rs) ≡ None → cond b r.1.frames (frames_of tid (stacks_of rs)) ≡ []) [
      | true ↦ λ none. let bad : ⊥ = cc in absurd bad
      | false ↦ λ none. no_frames tid rs none
    ] none

-- ---- what changes at a place

pub place_pushed : (tid : List ℕ) (n : ℕ) (f : plain.Frame) (rows : Rows) → IsPlace tid n rows → stacks_of (changed_at n (one_more f) rows) ≡ pushed tid f (stacks_of rows)
unfolding pushed
place_pushed tid n f [] at = absurd at
place_pushed tid n f (r ∷ rs) (inl here) = rw (here.0, here.1) refl
place_pushed tid n f (r ∷ rs) (inr there) = rw (there.0, there.1) (ap (λ rest. r.1 ∷ rest) (place_pushed tid n f rs there.2))

pub place_topped : (tid : List ℕ) (n : ℕ) (f : plain.Frame) (rows : Rows) → IsPlace tid n rows → stacks_of (changed_at n (topped f) rows) ≡ with_top tid f (stacks_of rows)
unfolding with_top
place_topped tid n f [] at = absurd at
place_topped tid n f (r ∷ rs) (inl here) = rw (here.0, here.1) refl
place_topped tid n f (r ∷ rs) (inr there) = rw (there.0, there.1) (ap (λ rest. r.1 ∷ rest) (place_topped tid n f rs there.2))

-- a stack of several frames has one less, and one of at most one frame goes
several : (s : plain.Stack) (fs : List plain.Frame) (ss : List plain.Stack) → 1 < length fs → ◌≡◌ {A = List plain.Stack} (record { tid = s.tid; frames = drop 1 fs } ∷ ss) (less_one s.tid fs ss)
several s [] ss more = let bad : ⊥ = omega arith in absurd bad
several s (f ∷ []) ss more = let bad : ⊥ = omega arith in absurd bad
several s (f ∷ (g ∷ gs)) ss more = refl

at_most_one : (s : plain.Stack) (fs : List plain.Frame) (ss : List plain.Stack) → length fs ≤ 1 → ss ≡ less_one s.tid fs ss
at_most_one s [] ss few = refl
at_most_one s (f ∷ []) ss few = refl
at_most_one s (f ∷ (g ∷ gs)) ss few = let bad : ⊥ = omega arith in absurd bad

pub place_popped : (tid : List ℕ) (n : ℕ) (rows : Rows) → IsPlace tid n rows → 1 < length (frames_of tid (stacks_of rows)) → stacks_of (changed_at n one_less rows) ≡ popped tid (stacks_of rows)
unfolding popped frames_of
place_popped tid n [] at = absurd at
place_popped tid n (r ∷ rs) (inl here) = rw (here.0, here.1) (several r.1 r.1.frames (stacks_of rs))
place_popped tid n (r ∷ rs) (inr there) = rw (there.0, there.1) (λ more. ap (λ rest. r.1 ∷ rest) (place_popped tid n rs there.2 more))

pub place_ended : (tid : List ℕ) (n : ℕ) (rows : Rows) → IsPlace tid n rows → length (frames_of tid (stacks_of rows)) ≤ 1 → stacks_of (without_at n rows) ≡ popped tid (stacks_of rows)
unfolding popped frames_of
place_ended tid n [] at = absurd at
place_ended tid n (r ∷ rs) (inl here) = rw (here.0, here.1) (at_most_one r.1 r.1.frames (stacks_of rs))
place_ended tid n (r ∷ rs) (inr there) = rw (there.0, there.1) (λ few. ap (λ rest. r.1 ∷ rest) (place_ended tid n rs there.2 few))

-- ---- where there is no place

pub new_pushed : (tid : List ℕ) (n : ℕ) (f : plain.Frame) (rows : Rows) → birth_in tid rows ≡ None → stacks_of (rows ++ ((n, begun tid f) ∷ [])) ≡ pushed tid f (stacks_of rows)
unfolding pushed
new_pushed tid n f [] none = refl
new_pushed tid n f (r ∷ rs) none =
    elim (is_of tid r.1) as (λ b. cond b (Some r.0) (birth_in tid rs) ≡ None → r.1 ∷ stacks_of (rs ++ ((n, begun tid f) ∷ [])) ≡ cond b (one_more f r.1 ∷ stacks_of rs) (r.1 ∷ pushed tid f (stacks_of rs))) [
      | true ↦ λ none. let bad : ⊥ = cc in absurd bad
      | false ↦ λ none. ap (λ rest. r.1 ∷ rest) (new_pushed tid n f rs none)
    ] none

pub none_popped : (tid : List ℕ) (rows : Rows) → birth_in tid rows ≡ None → stacks_of rows ≡ popped tid (stacks_of rows)
unfolding popped
none_popped tid [] none = refl
none_popped tid (r ∷ rs) none =
    elim (is_of tid r.1) as (λ b. cond b (Some r.0) (birth_in tid rs) ≡ None → r.1 ∷ stacks_of rs ≡ cond b (less_one r.1.tid r.1.frames (stacks_of rs)) (r.1 ∷ popped tid (stacks_of rs))) [
      | true ↦ λ none. let bad : ⊥ = cc in absurd bad
      | false ↦ λ none. ap (λ rest. r.1 ∷ rest) (none_popped tid rs none)
    ] none

-- a TID that has no birth has no stack, and one that has no stack has no birth
pub no_stack : (tid : List ℕ) (rows : Rows) → birth_in tid rows ≡ None → list_any (is_of tid) (stacks_of rows) ≡ false
no_stack tid [] none = refl
no_stack tid (r ∷ rs) none =
    elim (is_of tid r.1) as (λ b. cond b (Some r.0) (birth_in tid rs) ≡ None → (b || list_any (is_of tid) (stacks_of rs)) ≡ false) [ true ↦ λ none. let bad : ⊥ = cc in absurd bad | false ↦ λ none. no_stack tid rs none ] none

pub no_birth : (tid : List ℕ) (rows : Rows) → list_any (is_of tid) (stacks_of rows) ≡ false → birth_in tid rows ≡ None
no_birth tid [] none = refl
no_birth tid (r ∷ rs) none =
    elim (is_of tid r.1) as (λ b. (b || list_any (is_of tid) (stacks_of rs)) ≡ false → cond b (Some r.0) (birth_in tid rs) ≡ None) [ true ↦ λ none. let bad : ⊥ = cc in absurd bad | false ↦ λ none. no_birth tid rs none ] none

-- rows that are alone are stacks with TIDs of their own
pub own_tids : (rows : Rows) → AreAlone rows → HaveOwnTids (stacks_of rows)
own_tids [] alone = tt
own_tids (r ∷ rs) alone = (no_stack r.1.tid rs alone.0, own_tids rs alone.1)

-- what a top frame calls where it waits
abbrev pub called : Option plain.Frame → Option Waiting
called f = option_map call_of (outgoing_in f)

-- a top frame is one of several
pub some_frames : (fs : List plain.Frame) → IsSome (first_frame fs) → 0 < length fs
some_frames [] some = let bad : ⊥ = cc in absurd bad
some_frames (f ∷ fs) some = omega arith

pub no_top : (fs gs : List plain.Frame) → fs ≡ gs → gs ≡ [] → ¬ (IsSome (first_frame fs))
no_top fs gs same none some = let more = some_frames fs some in let size = ap length (same ∙ none) in omega (arith, more, size)

-- ---- what is below a top frame

below_one : (tid : List ℕ) (s : plain.Stack) (fs : List plain.Frame) (ss : List plain.Stack) → is_of tid s ≡ true → frames_of tid ss ≡ [] → frames_of tid (less_one s.tid fs ss) ≡ drop 1 fs
unfolding frames_of
below_one tid s [] ss here none = none
below_one tid s (f ∷ []) ss here none = none
below_one tid s (f ∷ (g ∷ gs)) ss here none = rw here refl

-- no other stack of the TID comes in the place of one that is gone
pub frames_popped : (tid : List ℕ) (rows : Rows) → AreAlone rows → frames_of tid (popped tid (stacks_of rows)) ≡ drop 1 (frames_of tid (stacks_of rows))
unfolding popped frames_of
frames_popped tid [] alone = refl
frames_popped tid (r ∷ rs) alone =
    elim (is_of tid r.1) as (λ b. is_of tid r.1 ≡ b → frames_of tid (if b then less_one r.1.tid r.1.frames (stacks_of rs) else r.1 ∷ popped tid (stacks_of rs)) ≡ drop 1 (if b then r.1.frames else frames_of tid (stacks_of rs))) [
      | true ↦ λ here. below_one tid r.1 r.1.frames (stacks_of rs) here (no_frames tid rs (ap (λ q. birth_in q rs) ((bytes_decides tid r.1.tid).0 here) ∙ alone.0))
      | false ↦ λ other. rw other (frames_popped tid rs alone.1)
    ] refl

pub below_popped : (tid : List ℕ) (rows : Rows) (ss now : List plain.Stack) → stacks_of rows ≡ ss → AreAlone rows → now ≡ popped tid ss → frames_of tid now ≡ drop 1 (frames_of tid ss)
below_popped tid rows ss now view alone is =
    ap (frames_of tid) is ∙ subst (λ ss. frames_of tid (popped tid ss) ≡ drop 1 (frames_of tid ss)) view (frames_popped tid rows alone)
