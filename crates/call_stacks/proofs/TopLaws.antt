-- What stacks have on top, before and after one of them changes.
use Rattle.std.proofs.Common.{◌≡◌, ◌≢◌, ℕ, suc, ◌+◌, ◌-◌, ◌^◌, ◌<◌, ◌≤◌, Bool, true, false, cond, List, [], ◌∷◌, ◌++◌, length, Option, None, Some, option_map, IsSome, set, refl, sym, ap, subst, ◌∙◌, inl, inr, arith, eq-eqb, ne_eqb, length-set, get_or-set_same, get_or-set_other}
use Rattle.std.specs.Prelude.{nat_eq, not, ◌||◌, is_some}
use Rattle.std.specs.List.{list_any}
use Rattle.std.proofs.lemmas.Bool.{cases_eq, cases_lt}
use Rattle.birth_index.specs.Bits.{has}
use Rattle.plan_model.specs.Frames as plain
use Rattle.plan_model.specs.Frames.{first_frame, is_body, outgoing_in, other_top}
use Rattle.call_stacks.specs.Rows.{Rise, Rows, stacks_of, stack_at, frames_in, frames_at, changed_at, without_at, one_more, topped}
use Rattle.call_stacks.specs.Tops.{is_method, calls, calls_in, ready_at, waiting_in, HasTops}
use Rattle.call_stacks.specs.WaitingCalls.{is_waiting}
use Rattle.call_stacks.specs.declared.tops.Top.{Top}
use Rattle.call_stacks.proofs.StackLaws.{rise_changed, rise_without}

-- ---- where a stack stands

module _ (n : ℕ) (r : ℕ × plain.Stack) (rs : Rows) where
  pub at_first : n ≡ r.0 → stack_at n (r ∷ rs) ≡ Some r.1
  at_first same = ap (λ b. cond b (Some r.1) (stack_at n rs)) (eq-eqb n r.0 same)

  pub at_later : n ≢ r.0 → stack_at n (r ∷ rs) ≡ stack_at n rs
  at_later other = ap (λ b. cond b (Some r.1) (stack_at n rs)) (ne_eqb n r.0 other)

-- there is no stack below the births that rise
pub none_before : (n least next : ℕ) (rows : Rows) → Rise least rows next → n < least → stack_at n rows ≡ None
none_before n least next [] rise below = refl
none_before n least next (r ∷ rs) rise below =
    let first = rise.0 in
    at_later n r rs (λ same. omega (arith, same, first, below)) ∙ none_before n (suc r.0) next rs rise.1 (omega (arith, first, below))

-- and none from their end on
pub none_behind : (n least next : ℕ) (rows : Rows) → Rise least rows next → next ≤ n → stack_at n rows ≡ None
none_behind n least next [] rise past = refl
none_behind n least next (r ∷ rs) rise past =
    let within = ends (suc r.0) next rs rise.1 in
    at_later n r rs (λ same. omega (arith, same, within, past)) ∙ none_behind n (suc r.0) next rs rise.1 past
  where
    ends : (least next : ℕ) (rows : Rows) → Rise least rows next → least ≤ next
    ends least next [] rise = rise
    ends least next (r ∷ rs) rise = let first = rise.0 in let more = ends (suc r.0) next rs rise.1 in omega (arith, first, more)

-- a stack's birth is below their end
pub birth_within : (n least next : ℕ) (rows : Rows) → Rise least rows next → IsSome (stack_at n rows) → n < next
birth_within n least next rows rise some =
    elim (cases_lt n next) [
      | inl within ↦ within
      | inr past ↦ let bad : false ≡ true = sym (ap is_some (none_behind n least next rows rise past)) ∙ some in let clash : ⊥ = cc in absurd clash
    ]

-- births that rise to below a number do so below a larger one
pub wider : (least next more : ℕ) (rows : Rows) → next ≤ more → Rise least rows next → Rise least rows more
wider least next more [] below rise = omega (arith, below, rise)
wider least next more (r ∷ rs) below rise = (rise.0, wider (suc r.0) next more rs below rise.1)

-- ---- how many stacks wait

-- how many calls wait on top of frames
abbrev pub calls_on : List plain.Frame → ℕ
calls_on fs = calls_in (first_frame fs)

pub few_calls : (fs : List plain.Frame) → calls_on fs ≤ 1
few_calls fs = elim (is_some (outgoing_in (first_frame fs))) as (λ b. cond b 1 0 ≤ 1) [ true ↦ omega arith | false ↦ omega arith ]

-- at most all stacks wait
pub few_wait : (least next : ℕ) (rows : Rows) → Rise least rows next → waiting_in rows + least ≤ next
few_wait least next [] rise = omega (arith, rise)
few_wait least next (r ∷ rs) rise =
    let more = few_wait (suc r.0) next rs rise.1 in
    let one = few_calls r.1.frames in
    let first = rise.0 in
    omega (arith, more, one, first)

-- a stack that waits is counted
pub counted_at : (n : ℕ) (rows : Rows) → calls_on (frames_at n rows) ≤ waiting_in rows
counted_at n [] = omega arith
counted_at n (r ∷ rs) =
    elim (nat_eq n r.0) as (λ b. calls_on (frames_in (cond b (Some r.1) (stack_at n rs))) ≤ waiting_in (r ∷ rs)) [
      | true ↦ omega arith
      | false ↦ let more = counted_at n rs in omega (arith, more)
    ]

pub any_waits : (rows : Rows) → not (nat_eq (waiting_in rows) 0) ≡ list_any is_waiting (stacks_of rows)
any_waits [] = refl
any_waits (r ∷ rs) =
    elim (is_waiting r.1) as (λ b. not (nat_eq (cond b 1 0 + waiting_in rs) 0) ≡ (b || list_any is_waiting (stacks_of rs))) [
      | true ↦ ap not (ne_eqb (1 + waiting_in rs) 0 (λ bad. omega (arith, bad)))
      | false ↦ ap (λ n. not (nat_eq n 0)) (let bare : cond false 1 0 + waiting_in rs ≡ waiting_in rs = omega arith in bare) ∙ any_waits rs
    ]

-- ---- one stack changes

-- rows that differ at one birth, where the number of those that wait follows the top
pub record IsTurn (rows new : Rows) (n : ℕ) : Type 0 where
  pub others : (k : ℕ) → k ≢ n → frames_at k new ≡ frames_at k rows
  pub count : waiting_in new + calls_on (frames_at n rows) ≡ waiting_in rows + calls_on (frames_at n new)

module _ (n : ℕ) (change : plain.Stack → plain.Stack) where
  pub stack_changed : (rows : Rows) → stack_at n (changed_at n change rows) ≡ option_map change (stack_at n rows)
  stack_changed [] = refl
  stack_changed (r ∷ rs) =
      elim (nat_eq n r.0) as (λ b. nat_eq n r.0 ≡ b → stack_at n (cond b ((r.0, change r.1) ∷ rs) (r ∷ changed_at n change rs)) ≡ option_map change (cond b (Some r.1) (stack_at n rs))) [
        | true ↦ λ here. ap (λ b. cond b (Some (change r.1)) (stack_at n rs)) here
        | false ↦ λ other. ap (λ b. cond b (Some r.1) (stack_at n (changed_at n change rs))) other ∙ stack_changed rs
      ] refl

  others_changed : (rows : Rows) (k : ℕ) → k ≢ n → stack_at k (changed_at n change rows) ≡ stack_at k rows
  others_changed [] k other = refl
  others_changed (r ∷ rs) k other =
      elim (cases_eq n r.0) as (λ _. stack_at k (changed_at n change (r ∷ rs)) ≡ stack_at k (r ∷ rs)) [
        | inl same ↦ ap (λ b. stack_at k (cond b ((r.0, change r.1) ∷ rs) (r ∷ changed_at n change rs))) (eq-eqb n r.0 same)
            ∙ at_later k (r.0, change r.1) rs (λ is. other (is ∙ sym same)) ∙ sym (at_later k r rs (λ is. other (is ∙ sym same)))
        | inr apart ↦ ap (λ b. stack_at k (cond b ((r.0, change r.1) ∷ rs) (r ∷ changed_at n change rs))) (ne_eqb n r.0 apart)
            ∙ ap (cond (nat_eq k r.0) (Some r.1)) (others_changed rs k other)
      ]

  count_changed : (rows : Rows) → waiting_in (changed_at n change rows) + calls_on (frames_at n rows) ≡ waiting_in rows + calls_on (frames_in (option_map change (stack_at n rows)))
  count_changed [] = refl
  count_changed (r ∷ rs) =
      elim (nat_eq n r.0) as (λ b. waiting_in (cond b ((r.0, change r.1) ∷ rs) (r ∷ changed_at n change rs)) + calls_on (frames_in (cond b (Some r.1) (stack_at n rs))) ≡ waiting_in (r ∷ rs) + calls_on (frames_in (option_map change (cond b (Some r.1) (stack_at n rs))))) [
        | true ↦ omega arith
        | false ↦ let more = count_changed rs in omega (arith, more)
      ]

  pub turn_changed : (rows new : Rows) → new ≡ changed_at n change rows → IsTurn rows new n
  turn_changed rows new is =
      subst (λ new. IsTurn rows new n) (sym is)
      (record {
        others = λ k other. ap frames_in (others_changed rows k other);
        count = count_changed rows ∙ ap (λ s. waiting_in rows + calls_on (frames_in s)) (sym (stack_changed rows));
      })

-- a stack that is gone
module _ (n : ℕ) where
  pub gone_without : (least next : ℕ) (rows : Rows) → Rise least rows next → stack_at n (without_at n rows) ≡ None
  gone_without least next [] rise = refl
  gone_without least next (r ∷ rs) rise =
      elim (cases_eq n r.0) as (λ _. stack_at n (without_at n (r ∷ rs)) ≡ None) [
        | inl same ↦ ap (λ b. stack_at n (cond b rs (r ∷ without_at n rs))) (eq-eqb n r.0 same) ∙ none_before n (suc r.0) next rs rise.1 (omega (arith, same))
        | inr other ↦ ap (λ b. stack_at n (cond b rs (r ∷ without_at n rs))) (ne_eqb n r.0 other) ∙ at_later n r (without_at n rs) other ∙ gone_without (suc r.0) next rs rise.1
      ]

  others_without : (rows : Rows) (k : ℕ) → k ≢ n → stack_at k (without_at n rows) ≡ stack_at k rows
  others_without [] k other = refl
  others_without (r ∷ rs) k other =
      elim (cases_eq n r.0) as (λ _. stack_at k (without_at n (r ∷ rs)) ≡ stack_at k (r ∷ rs)) [
        | inl same ↦ ap (λ b. stack_at k (cond b rs (r ∷ without_at n rs))) (eq-eqb n r.0 same) ∙ sym (at_later k r rs (λ is. other (is ∙ sym same)))
        | inr apart ↦ ap (λ b. stack_at k (cond b rs (r ∷ without_at n rs))) (ne_eqb n r.0 apart) ∙ ap (cond (nat_eq k r.0) (Some r.1)) (others_without rs k other)
      ]

  count_without : (rows : Rows) → waiting_in (without_at n rows) + calls_on (frames_at n rows) ≡ waiting_in rows
  count_without [] = refl
  count_without (r ∷ rs) =
      elim (nat_eq n r.0) as (λ b. waiting_in (cond b rs (r ∷ without_at n rs)) + calls_on (frames_in (cond b (Some r.1) (stack_at n rs))) ≡ waiting_in (r ∷ rs)) [
        | true ↦ omega arith
        | false ↦ let more = count_without rs in omega (arith, more)
      ]

  pub turn_without : (next : ℕ) (rows new : Rows) → Rise 0 rows next → new ≡ without_at n rows → IsTurn rows new n
  turn_without next rows new rise is =
      subst (λ new. IsTurn rows new n) (sym is)
      (record {
        others = λ k other. ap frames_in (others_without rows k other);
        count = count_without rows ∙ (let none = ap (λ s. calls_on (frames_in s)) (gone_without 0 next rows rise) in omega (arith, none));
      })

-- a stack behind all others
module _ (n : ℕ) (s : plain.Stack) where
  pub stack_added : (least : ℕ) (rows : Rows) → Rise least rows n → stack_at n (rows ++ ((n, s) ∷ [])) ≡ Some s
  stack_added least [] rise = at_first n (n, s) [] refl
  stack_added least (r ∷ rs) rise =
      let below = birth_before (suc r.0) rs rise.1 in
      at_later n r (rs ++ ((n, s) ∷ [])) (λ same. omega (arith, same, below)) ∙ stack_added (suc r.0) rs rise.1
    where
      birth_before : (least : ℕ) (rows : Rows) → Rise least rows n → least ≤ n
      birth_before least [] rise = rise
      birth_before least (r ∷ rs) rise = let first = rise.0 in let more = birth_before (suc r.0) rs rise.1 in omega (arith, first, more)

  others_added : (rows : Rows) (k : ℕ) → k ≢ n → stack_at k (rows ++ ((n, s) ∷ [])) ≡ stack_at k rows
  others_added [] k other = at_later k (n, s) [] other
  others_added (r ∷ rs) k other = ap (cond (nat_eq k r.0) (Some r.1)) (others_added rs k other)

  count_added : (rows : Rows) → waiting_in (rows ++ ((n, s) ∷ [])) ≡ waiting_in rows + calls_on s.frames
  count_added [] = omega arith
  count_added (r ∷ rs) = let more = count_added rs in omega (arith, more)

  pub turn_added : (rows new : Rows) → Rise 0 rows n → new ≡ rows ++ ((n, s) ∷ []) → IsTurn rows new n
  turn_added rows new rise is =
      subst (λ new. IsTurn rows new n) (sym is)
      (record {
        others = λ k other. ap frames_in (others_added rows k other);
        count =
            let none = ap (λ s. calls_on (frames_in s)) (none_behind n 0 n rows rise (omega arith)) in
            let more = count_added rows in
            let there = ap (λ s. calls_on (frames_in s)) (stack_added 0 rows rise) in
            omega (arith, none, more, there);
      })

-- ---- the tops follow

-- rows that differ at one birth, where one top was and another is
pub record Turning (rows new : Rows) (n : ℕ) (was is : Top) : Type 0 where
  pub turn : IsTurn rows new n
  pub called : calls was ≡ calls_on (frames_at n rows)
  pub calling : calls is ≡ calls_on (frames_at n new)
  pub method : is_method is ≡ ready_at n new

pub turning : (rows new : Rows) (n : ℕ) (was is : Top) (before after : Option plain.Frame) → IsTurn rows new n → calls was ≡ calls_in before → before ≡ first_frame (frames_at n rows)
    → is_method is ≡ is_body after → calls is ≡ calls_in after → after ≡ first_frame (frames_at n new) → Turning rows new n was is
turning rows new n was is before after turn called there method calling here =
    record { turn = turn; called = called ∙ ap calls_in there; calling = calling ∙ ap calls_in here; method = method ∙ ap is_body here }

module _ (rows new : Rows) (n : ℕ) (was is : Top) (turns : Turning rows new n was is) (ready : List Bool) (waiting : ℕ) (tops : HasTops rows ready waiting) where
  pub turn_counted : calls was ≤ waiting
  turn_counted = let counted = counted_at n rows in let called = turns.called in let count = tops.count in omega (arith, counted, called, count)

  module _ (rise : Rise 0 new (2 ^ 64 - 1)) where
    pub turn_fits : waiting + calls is < 2 ^ 64 + calls was
    turn_fits =
        let follows = turns.turn.count in
        let called = turns.called in
        let calling = turns.calling in
        let count = tops.count in
        let few = few_wait 0 (2 ^ 64 - 1) new rise in
        omega (arith, follows, count, few, called, calling)

    pub turned_tops : (after : List Bool) (waits : ℕ) → Rise 0 new (length ready) → n < length ready → after ≡ set ready n (is_method is) → waits + calls was ≡ waiting + calls is → HasTops new after waits
    turned_tops after waits room within set_is waits_is =
        let follows = turns.turn.count in
        let called = turns.called in
        let calling = turns.calling in
        let count = tops.count in
        record {
          rise = rise;
          room = subst (Rise 0 new) (sym (ap length set_is ∙ length-set ready n (is_method is))) room;
          births = λ k.
              ap (λ m. has m k) set_is
              ∙ elim (cases_eq k n) [
                | inl same ↦ rw same (get_or-set_same ready n (is_method is) false within ∙ turns.method)
                | inr other ↦ get_or-set_other ready n k (is_method is) false other ∙ tops.births k ∙ ap (λ fs. is_body (first_frame fs)) (sym (turns.turn.others k other))
              ];
          count = omega (arith, follows, count, called, calling, waits_is);
        }

-- ---- births that rise still do so

abbrev pub KeepsRise : Rows → Rows → Type 0
KeepsRise rows new = (next : ℕ) → Rise 0 rows next → Rise 0 new next

pub rises_changed : (n : ℕ) (change : plain.Stack → plain.Stack) → ((s : plain.Stack) → (change s).tid ≡ s.tid) → (rows new : Rows) → new ≡ changed_at n change rows → KeepsRise rows new
rises_changed n change same rows new is next rise = subst (λ new. Rise 0 new next) (sym is) (rise_changed n change same 0 next rows rise)

pub rises_without : (n : ℕ) (rows new : Rows) → new ≡ without_at n rows → KeepsRise rows new
rises_without n rows new is next rise = subst (λ new. Rise 0 new next) (sym is) (rise_without n 0 next rows rise)

-- ---- the top after a change

pub top_pushed : (n : ℕ) (f : plain.Frame) (rows new : Rows) → IsSome (stack_at n rows) → new ≡ changed_at n (one_more f) rows → Some f ≡ first_frame (frames_at n new)
top_pushed n f rows new some is = by (stack_at n rows) some ∙ sym (ap (λ s. first_frame (frames_in s)) (ap (stack_at n) is ∙ stack_changed n (one_more f) rows))
  where
    by : (s : Option plain.Stack) → IsSome s → Some f ≡ first_frame (frames_in (option_map (one_more f) s))
    by None some = let bad : ⊥ = cc in absurd bad
    by (Some s) some = refl

pub top_replaced : (n : ℕ) (f : plain.Frame) (rows new : Rows) → 0 < length (frames_at n rows) → new ≡ changed_at n (topped f) rows → Some f ≡ first_frame (frames_at n new)
top_replaced n f rows new some is = by (stack_at n rows) some ∙ sym (ap (λ s. first_frame (frames_in s)) (ap (stack_at n) is ∙ stack_changed n (topped f) rows))
  where
    first : (fs : List plain.Frame) → 0 < length fs → Some f ≡ first_frame (other_top f fs)
    first [] some = let bad : ⊥ = omega (arith, some) in absurd bad
    first (g ∷ gs) some = refl

    by : (s : Option plain.Stack) → 0 < length (frames_in s) → Some f ≡ first_frame (frames_in (option_map (topped f) s))
    by None some = let bad : ⊥ = omega (arith, some) in absurd bad
    by (Some s) some = first s.frames some

pub top_gone : (n next : ℕ) (rows new : Rows) → Rise 0 rows next → new ≡ without_at n rows → None ≡ first_frame (frames_at n new)
top_gone n next rows new rise is = sym (ap (λ s. first_frame (frames_in s)) (ap (stack_at n) is ∙ gone_without n 0 next rows rise))

pub top_begun : (n : ℕ) (s : plain.Stack) (rows new : Rows) → Rise 0 rows n → new ≡ rows ++ ((n, s) ∷ []) → first_frame s.frames ≡ first_frame (frames_at n new)
top_begun n s rows new rise is = sym (ap (λ s. first_frame (frames_in s)) (ap (stack_at n) is ∙ stack_added n s 0 rows rise))

pub no_top_yet : (n : ℕ) (rows : Rows) → Rise 0 rows n → None ≡ first_frame (frames_at n rows)
no_top_yet n rows rise = sym (ap (λ s. first_frame (frames_in s)) (none_behind n 0 n rows rise (omega arith)))

-- a stack that has a frame is there
pub some_stack : (n : ℕ) (rows : Rows) → 0 < length (frames_at n rows) → IsSome (stack_at n rows)
some_stack n rows more = by (stack_at n rows) more
  where
    by : (s : Option plain.Stack) → 0 < length (frames_in s) → IsSome s
    by None more = let bad : ⊥ = omega (arith, more) in absurd bad
    by (Some s) more = refl

-- ---- room for a birth behind all others

pub tops_room : (rows : Rows) (birth : ℕ) (ready more : List Bool) (waiting : ℕ) → HasTops rows ready waiting → Rise 0 rows birth → birth < length more → ((n : ℕ) → has more n ≡ has ready n) → HasTops rows more waiting
tops_room rows birth ready more waiting tops rise within same =
    record {
      rise = tops.rise;
      room = wider 0 birth (length more) rows (omega (arith, within)) rise;
      births = λ n. same n ∙ tops.births n;
      count = tops.count;
    }
