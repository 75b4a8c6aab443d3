-- Room behind answers: frames take them without need, and a root that is handed one gets what it refers to, once.
use Rattle.std.proofs.Common.{◌≡◌, ℕ, ◌+◌, ◌≤◌, Bool, true, false, if◌then◌else◌, List, [], ◌∷◌, ◌++◌, length, refl, arith}
use Rattle.message_model.specs.Messages.{Answer, returned, raised, reply}
use Rattle.uno_model.specs.Entities.{Entity}
use Rattle.uno_model.specs.Values.{Ref, Plain, refs}
use Rattle.uno_model.specs.Values as v
use Rattle.table_model.specs.declared.holder.Holder.TheVariants as holder
use Rattle.plan_model.specs.Frames.{Body, Frame, base, body, outgoing}
use Rattle.plan_model.specs.Holdings.{is_taken, let_go_at_end, reference_of}
use Rattle.plan_model.specs.Leaving.{leaving_frame}
use Rattle.bridge_model.specs.Calls.{Unwound, unwound}
use Rattle.bridge_model.specs.Handing.{taken_by, goes_on_with, statement_at, root_gets, lets_go_frame, answers_peer, gains_below, takes_below, hands_over, hands, hands_down, ends_frame, hands_from_peer}
use Rattle.bridge_model.specs.References.{says, refs_of_answer}
use Rattle.bridge_model.specs.Settings.{Setting, own_oid}
use Rattle.bridge_model.specs.Sides.{RootState, idle, waits_call, waits_query, answered, answer, Tables, state_of, with_root}
use Rattle.bridge_laws.specs.Counting.{total}
use Rattle.bridge_laws.proofs.EffectLaws.{leaving_frame_counts}
use Rattle.bridge_laws.proofs.TableRoom.{kept, says_kept, gains_all_kept, takes_all_kept, lets_go_all_kept}

-- ---- references

-- how many there are is a count of each as one
pub total_ones : {X : Type 0} (xs : List X) → total (λ x. 1) xs ≡ length xs
unfolding total
total_ones [] = refl
total_ones (x ∷ xs) = let rest = total_ones xs in omega arith

-- what leaves a frame refers to no more than what it ends with
pub leaving_refs : (reg : List Entity) (tid : List ℕ) (b : Body) (a : Answer) → length (refs_of_answer (leaving_frame reg tid b a)) ≤ length (refs_of_answer a)
leaving_refs reg tid b a =
    let fewer = leaving_frame_counts (λ r. 1) reg tid b a in
    let left = total_ones (refs_of_answer (leaving_frame reg tid b a)) in
    let all = total_ones (refs_of_answer a) in omega arith

-- ---- the end of a frame

lets_go_frame_kept : (g : Setting) (b : Body) (extra : List Ref) (t : Tables) → kept (lets_go_frame g b extra t) ≤ kept t
lets_go_frame_kept g b extra t = lets_go_all_kept g (holder.Frame b.number) (extra ++ let_go_at_end (own_oid g b.object) b) t

answers_peer_kept : (g : Setting) (tid : List ℕ) (b : Body) (extra : List Ref) (a : Answer) (t : Tables) → kept (answers_peer g tid b extra a t) ≤ kept t
answers_peer_kept g tid b extra a t =
    let said = says_kept g (reply tid b.face b.function a) t in
    let gone = lets_go_frame_kept g b extra (says g (reply tid b.face b.function a) t) in omega arith

-- ---- what is handed

-- what a root at the top holds counts
abbrev pub at_root : List Frame → ℕ → ℕ
at_root [] n = 0
at_root (base root ∷ fs) n = n
at_root (body b ∷ fs) n = 0
at_root (outgoing o ∷ fs) n = 0

-- what a method at the top is handed may go to a root below it
abbrev pub at_method : List Frame → ℕ → ℕ
at_method [] n = 0
at_method (base root ∷ fs) n = 0
at_method (body b ∷ fs) n = n
at_method (outgoing o ∷ fs) n = 0

at_one : (fs : List Frame) (n : ℕ) → at_method fs n + at_root fs n ≤ n
at_one [] n = omega arith
at_one (base root ∷ fs) n = omega arith
at_one (body b ∷ fs) n = omega arith
at_one (outgoing o ∷ fs) n = omega arith

pub gains_below_kept : (fs : List Frame) (a : Answer) (t : Tables) → kept (gains_below fs a t) ≤ at_root fs (length (refs_of_answer a)) + kept t
gains_below_kept [] a t = omega arith
gains_below_kept (base root ∷ fs) a t = gains_all_kept (holder.Root root) (refs_of_answer a) t
gains_below_kept (body b ∷ fs) a t = gains_all_kept (holder.Frame b.number) (refs_of_answer a) t
gains_below_kept (outgoing o ∷ fs) a t = omega arith

takes_below_kept : (g : Setting) (fs : List Frame) (a : Answer) (t : Tables) → kept (takes_below g fs a t) ≤ at_root fs (length (refs_of_answer a)) + kept t
takes_below_kept g [] a t = omega arith
takes_below_kept g (base root ∷ fs) a t = takes_all_kept g (holder.Root root) (refs_of_answer a) t
takes_below_kept g (body b ∷ fs) a t = takes_all_kept g (holder.Frame b.number) (refs_of_answer a) t
takes_below_kept g (outgoing o ∷ fs) a t = omega arith

hands_over_kept : (g : Setting) (b : Body) (extra : List Ref) (a : Answer) (fs : List Frame) (t : Tables) → kept (hands_over g b extra a fs t) ≤ at_root fs (length (refs_of_answer a)) + kept t
hands_over_kept g b extra a fs t =
    let held = gains_below_kept fs a t in let gone = lets_go_frame_kept g b extra (gains_below fs a t) in omega arith

-- ---- who gets it

pub with_root_kept : (root : ℕ) (x : RootState) (t : Tables) → kept (with_root root x t) ≡ kept t
unfolding kept
with_root_kept root x t = refl

pub root_gets_kept : (g : Setting) (root : ℕ) (x : RootState) (a : Answer) (t : Tables) → kept (root_gets g root x a t) ≤ kept t
unfolding root_gets
root_gets_kept g root (waits_query wanted) (returned x outs) t =
    let same = with_root_kept root (answered (answer (returned (v.ref (reference_of g.registry wanted x)) []))) t in
    let gone = lets_go_all_kept g (holder.Root root) (if is_taken g.registry wanted x then [] else refs x) (with_root root (answered (answer (returned (v.ref (reference_of g.registry wanted x)) []))) t) in
    omega arith
root_gets_kept g root (waits_query wanted) (raised k x) t = let same = with_root_kept root (answered (answer (raised k x))) t in omega arith
root_gets_kept g root idle a t = let same = with_root_kept root (answered (answer a)) t in omega arith
root_gets_kept g root waits_call a t = let same = with_root_kept root (answered (answer a)) t in omega arith
root_gets_kept g root (answered o) a t = let same = with_root_kept root (answered (answer a)) t in omega arith

pub goes_on_with_kept : (g : Setting) (b : Body) (x : Plain) (outs : List Plain) (fs : List Frame) (t : Tables) → kept (goes_on_with g b x outs fs t).tables ≤ kept t
unfolding goes_on_with
goes_on_with_kept g b x outs fs t = lets_go_all_kept g (holder.Frame b.number) (taken_by g (statement_at g t.objects b) x outs b.variables).let_go t

unwound_if : (b : Bool) (u w : Unwound) (n : ℕ) (t : Tables) → kept u.tables ≤ n + kept t → kept w.tables ≤ n + kept t → kept (if b then u else w).tables ≤ n + kept t
unwound_if true u w n t p q = p
unwound_if false u w n t p q = q

pub hands_kept : (g : Setting) (tid : List ℕ) (a : Answer) (fs : List Frame) (t : Tables) → kept (hands g tid a fs t).tables ≤ at_method fs (length (refs_of_answer a)) + kept t
unfolding hands
hands_kept g tid a [] t = omega arith
hands_kept g tid a (base root ∷ fs) t = let got = root_gets_kept g root (state_of root t.roots) a t in omega arith
hands_kept g tid a (outgoing o ∷ fs) t = omega arith
hands_kept g tid (returned x outs) (body b ∷ fs) t = let on = goes_on_with_kept g b x outs fs t in omega arith
hands_kept g tid (raised k x) (body b ∷ fs) t =
    let over = hands_over_kept g b (refs x) (leaving_frame g.registry tid b (raised k x)) fs t in
    let down = hands_kept g tid (leaving_frame g.registry tid b (raised k x)) fs (hands_over g b (refs x) (leaving_frame g.registry tid b (raised k x)) fs t) in
    let one = at_one fs (length (refs_of_answer (leaving_frame g.registry tid b (raised k x)))) in
    let fewer = leaving_refs g.registry tid b (raised k x) in
    let answered = answers_peer_kept g tid b (refs x) (leaving_frame g.registry tid b (raised k x)) t in
    unwound_if b.from_peer
    (unwound fs (answers_peer g tid b (refs x) (leaving_frame g.registry tid b (raised k x)) t))
    (hands g tid (leaving_frame g.registry tid b (raised k x)) fs (hands_over g b (refs x) (leaving_frame g.registry tid b (raised k x)) fs t))
    (length (refs_of_answer (raised k x))) t
    (omega arith) (omega arith)

-- ---- frames that end

hands_down_kept : (g : Setting) (tid : List ℕ) (b : Body) (a : Answer) (fs : List Frame) (t : Tables) → kept (hands_down g tid b a fs t).tables ≤ length (refs_of_answer a) + kept t
hands_down_kept g tid b (returned x outs) fs t =
    let held = gains_below_kept fs (returned x outs) t in
    let down = hands_kept g tid (returned x outs) fs (gains_below fs (returned x outs) t) in
    let one = at_one fs (length (refs_of_answer (returned x outs))) in
    let gone = lets_go_frame_kept g b [] (hands g tid (returned x outs) fs (gains_below fs (returned x outs) t)).tables in omega arith
hands_down_kept g tid b (raised k x) fs t =
    let over = hands_over_kept g b [] (raised k x) fs t in
    let down = hands_kept g tid (raised k x) fs (hands_over g b [] (raised k x) fs t) in
    let one = at_one fs (length (refs_of_answer (raised k x))) in omega arith

-- what a method that the peer called ends with goes out; what another one ends with may go to a root
abbrev pub leaves : Body → ℕ → ℕ
leaves b n = if b.from_peer then 0 else n

ended_if : (b : Bool) (u w : Unwound) (n : ℕ) (t : Tables) → kept u.tables ≤ kept t → kept w.tables ≤ n + kept t
    → kept (if b then u else w).tables ≤ (if b then 0 else n) + kept t
ended_if true u w n t p q = omega arith
ended_if false u w n t p q = q

pub ends_frame_kept : (g : Setting) (tid : List ℕ) (b : Body) (a : Answer) (fs : List Frame) (t : Tables)
    → kept (ends_frame g tid b a fs t).tables ≤ leaves b (length (refs_of_answer a)) + kept t
unfolding ends_frame
ends_frame_kept g tid b a fs t =
    ended_if b.from_peer (unwound fs (answers_peer g tid b [] a t)) (hands_down g tid b a fs t) (length (refs_of_answer a)) t
    (answers_peer_kept g tid b [] a t)
    (hands_down_kept g tid b a fs t)

pub hands_from_peer_kept : (g : Setting) (tid : List ℕ) (a : Answer) (fs : List Frame) (t : Tables)
    → kept (hands_from_peer g tid a fs t).tables ≤ length (refs_of_answer a) + kept t
unfolding hands_from_peer
hands_from_peer_kept g tid a fs t =
    let held = takes_below_kept g fs a t in
    let down = hands_kept g tid a fs (takes_below g fs a t) in
    let one = at_one fs (length (refs_of_answer a)) in omega arith
