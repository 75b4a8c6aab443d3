-- Room for the outcomes of roots: a root that waits is open, and stays so when it is answered.
use Rattle.std.proofs.Common.{◌≡◌, ℕ, zero, suc, ◌+◌, ◌≤◌, true, not, cond, List, [], ◌∷◌, map, replicate, Option, None, Some, slice_get, slice_set, unwrap_or, refl, sym, ap, ◌∙◌, arith}
use Rattle.std.proofs.lemmas.Bool.{false≢true}
use Rattle.plan_model.specs.Frames.{Frame, base, body, outgoing}
use Rattle.bridge_model.specs.Ends.{state_at_end}
use Rattle.bridge_model.specs.Receiving.{below_top}
use Rattle.bridge_model.specs.Roots.{is_idle, outcome_in}
use Rattle.bridge_model.specs.Settings.{Setting}
use Rattle.bridge_model.specs.Sides.{RootState, idle, waits_call, waits_query, answered, state_of, states_with}
use Rattle.bridge_model.specs.Steps.{is_outcome}
use Rattle.bridge_model.specs.declared.cause.Cause.{Cause}
use Rattle.bridge_laws.specs.Rooted.{waits}
use Rattle.bridge_laws.proofs.FrameLaws.{began_body, began_outgoing, stack_below, Moved, still, root_ends, peer_ends}
use Rattle.bridge_laws.specs.Grounded.{is_stack, began, Thread, nothing, of_root, of_peer}
use Rattle.bridge_laws.specs.Room.{open_roots}

-- ---- states

-- whether a root is open, as a number
abbrev pub open_one : RootState → ℕ
open_one x = cond (not (is_idle x)) 1 0

open_one_at_most : (x : RootState) → open_one x ≤ 1
open_one_at_most idle = omega arith
open_one_at_most waits_call = omega arith
open_one_at_most (waits_query wanted) = omega arith
open_one_at_most (answered o) = omega arith

open_set : (n : ℕ) (x : RootState) (states : List RootState)
    → open_one (unwrap_or (slice_get states n) idle) + open_roots (slice_set states n x) ≤ open_one x + open_roots states
unfolding open_roots
open_set n x [] = omega arith
open_set zero x (y ∷ states) = omega arith
open_set (suc n) x (y ∷ states) = let rest = open_set n x states in omega arith

-- another state of a root: the root counts as it does now, and no more as it did
pub open_with : (root : ℕ) (x : RootState) (states : List RootState) → open_one (state_of root states) + open_roots (states_with root x states) ≤ open_one x + open_roots states
unfolding state_of states_with
open_with zero x states = omega arith
open_with (suc n) x states = open_set n x states

pub open_more : (root : ℕ) (x : RootState) (states : List RootState) → open_roots (states_with root x states) ≤ 1 + open_roots states
open_more root x states = let set = open_with root x states in let one = open_one_at_most x in omega arith

waits_open : (x : RootState) → waits x ≡ true → open_one x ≡ 1
waits_open idle is = absurd (false≢true is)
waits_open waits_call is = refl
waits_open (waits_query wanted) is = refl
waits_open (answered o) is = absurd (false≢true is)

outcome_open : (x : RootState) → is_outcome (outcome_in x) ≡ true → open_one x ≡ 1
outcome_open idle is = absurd (false≢true is)
outcome_open waits_call is = absurd (false≢true is)
outcome_open (waits_query wanted) is = absurd (false≢true is)
outcome_open (answered o) is = refl

-- an outcome is taken
pub open_taken : (root : ℕ) (states : List RootState) → is_outcome (outcome_in (state_of root states)) ≡ true → suc (open_roots (states_with root idle states)) ≤ open_roots states
open_taken root states there = let set = open_with root idle states in let one = outcome_open (state_of root states) there in omega arith

-- ---- the end, and the beginning

end_open : (why : Cause) (x : RootState) → open_one (state_at_end why x) ≡ open_one x
end_open why idle = refl
end_open why waits_call = refl
end_open why (waits_query wanted) = refl
end_open why (answered o) = refl

pub open_ended : (why : Cause) (states : List RootState) → open_roots (map (state_at_end why) states) ≡ open_roots states
unfolding open_roots
open_ended why [] = refl
open_ended why (x ∷ states) = let one = end_open why x in let rest = open_ended why states in omega arith

pub open_none : (n : ℕ) → open_roots (replicate n idle) ≡ 0
unfolding open_roots
open_none zero = refl
open_none (suc n) = let rest = open_none n in omega arith

-- ---- threads

-- the root that began these frames waits
abbrev pub RootWaits : List Frame → List RootState → Type 0
RootWaits fs roots = (root : ℕ) → began fs ≡ Some root → waits (state_of root roots) ≡ true

some_not_none : (root : ℕ) (o : Option ℕ) → o ≡ Some root → o ≡ None → ⊥
some_not_none root o some none = cc

pub thread_waits : (g : Setting) (roots : List RootState) (tid : List ℕ) (fs : List Frame) → Thread g roots tid fs → RootWaits fs roots
thread_waits g roots tid fs (nothing none free) root from = absurd (some_not_none root (began fs) from (ap began none))
thread_waits g roots tid fs (of_root r least most is waiting live from_r) root from =
    let same : r ≡ root = cc in ap (λ n. waits (state_of n roots)) (sym same) ∙ waiting
thread_waits g roots tid fs (of_peer theirs live none) root from = absurd (some_not_none root (began fs) from none)

never_at_top : (g : Setting) (roots : List RootState) (tid : List ℕ) (root : ℕ) (fs : List Frame) → Thread g roots tid (base root ∷ fs) → ⊥
never_at_top g roots tid root fs (nothing none free) = cc
never_at_top g roots tid root fs (of_root r least most is waiting live from) = false≢true live
never_at_top g roots tid root fs (of_peer theirs live from) = false≢true live

-- so does that of the frames below a call that went out
pub below_waits : (g : Setting) (roots : List RootState) (tid : List ℕ) (fs : List Frame) → Thread g roots tid fs → RootWaits (below_top fs) roots
below_waits g roots tid [] here root from = absurd (cc)
below_waits g roots tid (base r ∷ fs) here root from = absurd (never_at_top g roots tid r fs here)
below_waits g roots tid (body b ∷ fs) here root from = thread_waits g roots tid (body b ∷ fs) here root (began_body b fs ∙ from)
below_waits g roots tid (outgoing o ∷ fs) here root from = thread_waits g roots tid (outgoing o ∷ fs) here root (began_outgoing o fs ∙ from)

pub below_stack : (fs : List Frame) → is_stack fs ≡ true → is_stack (below_top fs) ≡ true
below_stack [] is = is
below_stack (f ∷ fs) is = (stack_below f fs is).1

-- frames that move open no root
pub open_moved : (fs : List Frame) (roots : List RootState) (gs : List Frame) (now : List RootState) → RootWaits fs roots → Moved fs roots gs now → open_roots now ≤ open_roots roots
open_moved fs roots gs now waiting (still live lives same stay) = let alike : open_roots now ≡ open_roots roots = ap open_roots stay in omega arith
open_moved fs roots gs now waiting (root_ends root o from gone changed) =
    let alike : open_roots now ≡ open_roots (states_with root (answered o) roots) = ap open_roots changed in
    let set = open_with root (answered o) roots in
    let one = waits_open (state_of root roots) (waiting root from) in omega arith
open_moved fs roots gs now waiting (peer_ends from gone stay) = let alike : open_roots now ≡ open_roots roots = ap open_roots stay in omega arith
