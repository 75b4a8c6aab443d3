-- Frames and tables in which all that is held lives: calls that begin, answers that are handed down, and frames that end keep it.
use Rattle.std.proofs.Common.{◌≡◌, ℕ, ◌+◌, Bool, true, false, if◌then◌else◌, List, [], ◌∷◌, ◌++◌, Option, None, Some, refl, ap, ◌∙◌, arith}
use Rattle.message_model.specs.Calls.{numbered}
use Rattle.message_model.specs.Messages.{Answer, returned, raised, request, reply}
use Rattle.uno_model.specs.Values.{Ref, null, own, peer, Plain, refs}
use Rattle.uno_model.specs.Values as v
use Rattle.table_model.specs.declared.holder.Holder.{Holder}
use Rattle.table_model.specs.declared.holder.Holder.TheVariants as holder
use Rattle.plan_model.specs.Frames.{Body, Frame, base, body, outgoing, Outgoing}
use Rattle.plan_model.specs.Holdings.{Taken, goes_on, let_go_at_end, refs_under, reference_of, is_taken}
use Rattle.plan_model.specs.Leaving.{leaving_frame}
use Rattle.bridge_model.specs.Calls.{Unwound, unwound, params_of, first_body, calls_own, serves, calls_peer}
use Rattle.bridge_model.specs.Handing.{statement_at, taken_by, goes_on_taking, goes_on_with, root_gets, lets_go_frame, answers_peer, holder_of, gains_with, gains_below, takes_with, takes_below, hands_over, hands, after_letting_go, hands_down, ends_frame, hands_from_peer}
use Rattle.bridge_model.specs.Objects.{object_named, number_of}
use Rattle.bridge_model.specs.References.{says, gains_all, takes_all, refs_of_values, refs_of_answer}
use Rattle.bridge_model.specs.Settings.{Setting, own_oid}
use Rattle.bridge_model.specs.Sides.{RootState, waits_query, answered, answer, Tables, state_of, with_root}
use Rattle.bridge_laws.specs.Counting.{total}
use Rattle.bridge_laws.proofs.EffectLaws.{leaving_frame_counts}
use Rattle.bridge_laws.proofs.IdentityLaws.{given_own, named_oid, own_alive, alive_own}
use Rattle.bridge_laws.proofs.HandingLaws.{taken_by_owes, returned_owes}
use Rattle.bridge_laws.proofs.LivingTableLaws.{AliveIn, says_alive, gains_alive, gains_all_alive, takes_all_alive, lets_go_all_alive}
use Rattle.bridge_laws.proofs.StrayLaws.{untold, strays, told_unless_stray}
use Rattle.bridge_laws.proofs.VariableLaws.{first_variables_owe}

-- ---- words

-- the references in a method's variables that are told wrongly
unfoldable pub frame_untold : Setting → Frame → ℕ
frame_untold g (base root) = 0
frame_untold g (body b) = total (untold g) (refs_under b.variables)
frame_untold g (outgoing o) = 0

abbrev pub frames_untold : Setting → List Frame → ℕ
frames_untold g fs = total (frame_untold g) fs

-- all that is held lives, and frames tell their references
abbrev pub Living : Setting → ℕ → (List ℕ → Bool) → Unwound → Type 0
Living g m live u = AliveIn g m live u.tables × (frames_untold g u.frames ≡ 0)

-- all references of an answer live
abbrev pub AnswerLives : Setting → (List ℕ → Bool) → Answer → Type 0
AnswerLives g live a = total (strays g live) (refs_of_answer a) ≡ 0

pub body_told : (g : Setting) (b : Body) (fs : List Frame) → frames_untold g (body b ∷ fs) ≡ total (untold g) (refs_under b.variables) + frames_untold g fs
unfolding total frame_untold
body_told g b fs = refl

pub base_told : (g : Setting) (root : ℕ) (fs : List Frame) → frames_untold g (base root ∷ fs) ≡ frames_untold g fs
unfolding total frame_untold
base_told g root fs = omega arith

pub outgoing_told : (g : Setting) (o : Outgoing) (fs : List Frame) → frames_untold g (outgoing o ∷ fs) ≡ frames_untold g fs
unfolding total frame_untold
outgoing_told g o fs = omega arith

pub none_told : (g : Setting) → frames_untold g [] ≡ 0
unfolding total
none_told g = refl

-- ---- calls

first_body_told : (g : Setting) (live : List ℕ → Bool) (from_peer : Bool) (oid face : List ℕ) (function : ℕ) (args : List Plain) (t : Tables)
    → total (strays g live) (refs_of_values args) ≡ 0 → total (untold g) (refs_under (first_body g from_peer oid face function args t).variables) ≡ 0
first_body_told g live from_peer oid face function args t fine =
    let most = told_unless_stray g live (refs_of_values args) in
    let first = first_variables_owe (untold g) g.registry (params_of (numbered g.registry face function)) args in omega arith

-- the object of a method that is called
itself_lives : (g : Setting) (m : ℕ) (live : List ℕ → Bool) (oid face other : List ℕ) (t : Tables) → strays g live (own oid face) ≡ 0 → AliveIn g m live t
    → strays g live (own (own_oid g (number_of (object_named g oid t.objects))) other) ≡ 0
itself_lives g m live oid face other t fine alive =
    let found = own_alive g live oid face fine in
    let same = named_oid g oid t.objects (alive.named oid ∙ found.1) in
    alive_own g live (own_oid g (number_of (object_named g oid t.objects))) other (given_own g (number_of (object_named g oid t.objects))) (ap live same ∙ found.1)

pub calls_own_lives : (g : Setting) (m : ℕ) (live : List ℕ → Bool) (oid face : List ℕ) (function : ℕ) (args : List Plain) (fs : List Frame) (t : Tables)
    → strays g live (own oid face) ≡ 0 → total (strays g live) (refs_of_values args) ≡ 0 → frames_untold g fs ≡ 0 → AliveIn g m live t
    → Living g m live (calls_own g oid face function args fs t)
unfolding calls_own
calls_own_lives g m live oid face function args fs t target fine told alive =
    let first = first_body_told g live false oid face function args t fine in
    let all = body_told g (first_body g false oid face function args t) fs in (
      gains_alive g m live (holder.Frame t.frames_made) (own (own_oid g (number_of (object_named g oid t.objects))) face) (gains_all (holder.Frame t.frames_made) (refs_of_values args) t)
          (itself_lives g m live oid face face t target alive) (gains_all_alive g m live (holder.Frame t.frames_made) (refs_of_values args) t fine alive),
      omega arith,
    )

pub serves_lives : (g : Setting) (m : ℕ) (live : List ℕ → Bool) (oid face : List ℕ) (function : ℕ) (args : List Plain) (fs : List Frame) (t : Tables)
    → strays g live (own oid face) ≡ 0 → total (strays g live) (refs_of_values args) ≡ 0 → frames_untold g fs ≡ 0 → AliveIn g m live t
    → Living g m live (serves g oid face function args fs t)
unfolding serves
serves_lives g m live oid face function args fs t target fine told alive =
    let first = first_body_told g live true oid face function args t fine in
    let all = body_told g (first_body g true oid face function args t) fs in (
      gains_alive g m live (holder.Frame t.frames_made) (own (own_oid g (number_of (object_named g oid t.objects))) face) (takes_all g (holder.Frame t.frames_made) (refs_of_values args) t)
          (itself_lives g m live oid face face t target alive) (takes_all_alive g m live (holder.Frame t.frames_made) (refs_of_values args) t fine alive),
      omega arith,
    )

pub calls_peer_lives : (g : Setting) (m : ℕ) (live : List ℕ → Bool) (tid oid face : List ℕ) (function : ℕ) (args : List Plain) (fs : List Frame) (t : Tables)
    → total (strays g live) (refs_of_values args) ≡ 0 → frames_untold g fs ≡ 0 → AliveIn g m live t → Living g m live (calls_peer g tid oid face function args fs t)
unfolding calls_peer
calls_peer_lives g m live tid oid face function args fs t fine told alive =
    let all = outgoing_told g (record { number = t.frames_made; oid = oid; face = face; function = function }) fs in
    (says_alive g m live (request tid oid face function args) t fine alive, omega arith)

-- ---- going on with an answer

taking_lives : (g : Setting) (m : ℕ) (live : List ℕ → Bool) (b : Body) (taken : Taken) (fs : List Frame) (t : Tables) → total (untold g) (refs_under taken.variables) ≡ 0
    → frames_untold g fs ≡ 0 → AliveIn g m live t → Living g m live (goes_on_taking g b taken fs t)
unfolding goes_on
taking_lives g m live b taken fs t fine told alive =
    let all = body_told g (goes_on taken.variables b) fs in
    (lets_go_all_alive g m live (holder.Frame b.number) taken.let_go t alive, omega arith)

goes_on_with_lives : (g : Setting) (m : ℕ) (live : List ℕ → Bool) (b : Body) (x : Plain) (outs : List Plain) (fs : List Frame) (t : Tables) → AnswerLives g live (returned x outs)
    → frames_untold g (body b ∷ fs) ≡ 0 → AliveIn g m live t → Living g m live (goes_on_with g b x outs fs t)
unfolding goes_on_with
goes_on_with_lives g m live b x outs fs t fine told alive =
    let all = body_told g b fs in
    let most = told_unless_stray g live (refs_of_answer (returned x outs)) in
    let parts = returned_owes (untold g) x outs in
    let taken = taken_by_owes (untold g) g (statement_at g t.objects b) x outs b.variables in
    taking_lives g m live b (taken_by g (statement_at g t.objects b) x outs b.variables) fs t (omega arith) (omega arith) alive

pub root_gets_alive : (g : Setting) (m : ℕ) (live : List ℕ → Bool) (root : ℕ) (s : RootState) (a : Answer) (t : Tables) → AliveIn g m live t → AliveIn g m live (root_gets g root s a t)
unfolding root_gets
root_gets_alive g m live root (waits_query wanted) (returned x outs) t alive =
    lets_go_all_alive g m live (holder.Root root) (if is_taken g.registry wanted x then [] else refs x)
    (with_root root (answered (answer (returned (v.ref (reference_of g.registry wanted x)) []))) t) alive
root_gets_alive g m live root s a t alive = alive

-- ---- frames that end

lets_go_frame_alive : (g : Setting) (m : ℕ) (live : List ℕ → Bool) (b : Body) (extra : List Ref) (t : Tables) → AliveIn g m live t → AliveIn g m live (lets_go_frame g b extra t)
lets_go_frame_alive g m live b extra t alive = lets_go_all_alive g m live (holder.Frame b.number) (extra ++ let_go_at_end (own_oid g b.object) b) t alive

answers_peer_alive : (g : Setting) (m : ℕ) (live : List ℕ → Bool) (tid : List ℕ) (b : Body) (extra : List Ref) (a : Answer) (t : Tables) → AnswerLives g live a → AliveIn g m live t
    → AliveIn g m live (answers_peer g tid b extra a t)
answers_peer_alive g m live tid b extra a t fine alive =
    lets_go_frame_alive g m live b extra (says g (reply tid b.face b.function a) t) (says_alive g m live (reply tid b.face b.function a) t fine alive)

gains_with_alive : (g : Setting) (m : ℕ) (live : List ℕ → Bool) (who : Option Holder) (rs : List Ref) (t : Tables) → total (strays g live) rs ≡ 0 → AliveIn g m live t
    → AliveIn g m live (gains_with who rs t)
gains_with_alive g m live None rs t fine alive = alive
gains_with_alive g m live (Some who) rs t fine alive = gains_all_alive g m live who rs t fine alive

pub gains_below_alive : (g : Setting) (m : ℕ) (live : List ℕ → Bool) (fs : List Frame) (a : Answer) (t : Tables) → AnswerLives g live a → AliveIn g m live t
    → AliveIn g m live (gains_below fs a t)
gains_below_alive g m live [] a t fine alive = alive
gains_below_alive g m live (f ∷ fs) a t fine alive = gains_with_alive g m live (holder_of f) (refs_of_answer a) t fine alive

takes_with_alive : (g : Setting) (m : ℕ) (live : List ℕ → Bool) (who : Option Holder) (rs : List Ref) (t : Tables) → total (strays g live) rs ≡ 0 → AliveIn g m live t
    → AliveIn g m live (takes_with g who rs t)
takes_with_alive g m live None rs t fine alive = alive
takes_with_alive g m live (Some who) rs t fine alive = takes_all_alive g m live who rs t fine alive

takes_below_alive : (g : Setting) (m : ℕ) (live : List ℕ → Bool) (fs : List Frame) (a : Answer) (t : Tables) → AnswerLives g live a → AliveIn g m live t
    → AliveIn g m live (takes_below g fs a t)
takes_below_alive g m live [] a t fine alive = alive
takes_below_alive g m live (f ∷ fs) a t fine alive = takes_with_alive g m live (holder_of f) (refs_of_answer a) t fine alive

hands_over_alive : (g : Setting) (m : ℕ) (live : List ℕ → Bool) (b : Body) (extra : List Ref) (a : Answer) (fs : List Frame) (t : Tables) → AnswerLives g live a → AliveIn g m live t
    → AliveIn g m live (hands_over g b extra a fs t)
hands_over_alive g m live b extra a fs t fine alive =
    lets_go_frame_alive g m live b extra (gains_below fs a t) (gains_below_alive g m live fs a t fine alive)

-- ---- handing

ends_either : (g : Setting) (m : ℕ) (live : List ℕ → Bool) (b : Bool) (there here : Unwound) → Living g m live there → Living g m live here → Living g m live (if b then there else here)
ends_either g m live true there here p q = p
ends_either g m live false there here p q = q

pub hands_lives : (g : Setting) (m : ℕ) (live : List ℕ → Bool) (tid : List ℕ) (a : Answer) (fs : List Frame) (t : Tables) → AnswerLives g live a → frames_untold g fs ≡ 0
    → AliveIn g m live t → Living g m live (hands g tid a fs t)
unfolding hands
hands_lives g m live tid a [] t fine told alive = (alive, told)
hands_lives g m live tid a (base root ∷ fs) t fine told alive = (root_gets_alive g m live root (state_of root t.roots) a t alive, none_told g)
hands_lives g m live tid a (outgoing o ∷ fs) t fine told alive = (alive, told)
hands_lives g m live tid (returned x outs) (body b ∷ fs) t fine told alive = goes_on_with_lives g m live b x outs fs t fine told alive
hands_lives g m live tid (raised k x) (body b ∷ fs) t fine told alive =
    let all = body_told g b fs in
    let below : frames_untold g fs ≡ 0 = omega arith in
    let most = leaving_frame_counts (strays g live) g.registry tid b (raised k x) in
    let leaves : AnswerLives g live (leaving_frame g.registry tid b (raised k x)) = omega arith in
    ends_either g m live b.from_peer
    (unwound fs (answers_peer g tid b (refs x) (leaving_frame g.registry tid b (raised k x)) t))
    (hands g tid (leaving_frame g.registry tid b (raised k x)) fs (hands_over g b (refs x) (leaving_frame g.registry tid b (raised k x)) fs t))
    (answers_peer_alive g m live tid b (refs x) (leaving_frame g.registry tid b (raised k x)) t leaves alive, below)
    (hands_lives g m live tid (leaving_frame g.registry tid b (raised k x)) fs (hands_over g b (refs x) (leaving_frame g.registry tid b (raised k x)) fs t) leaves below
    (hands_over_alive g m live b (refs x) (leaving_frame g.registry tid b (raised k x)) fs t leaves alive))

after_lives : (g : Setting) (m : ℕ) (live : List ℕ → Bool) (b : Body) (u : Unwound) → Living g m live u → Living g m live (after_letting_go g b u)
after_lives g m live b u fine = (lets_go_frame_alive g m live b [] u.tables fine.0, fine.1)

hands_down_lives : (g : Setting) (m : ℕ) (live : List ℕ → Bool) (tid : List ℕ) (b : Body) (a : Answer) (fs : List Frame) (t : Tables) → AnswerLives g live a → frames_untold g fs ≡ 0
    → AliveIn g m live t → Living g m live (hands_down g tid b a fs t)
hands_down_lives g m live tid b (returned x outs) fs t fine told alive =
    after_lives g m live b (hands g tid (returned x outs) fs (gains_below fs (returned x outs) t))
    (hands_lives g m live tid (returned x outs) fs (gains_below fs (returned x outs) t) fine told (gains_below_alive g m live fs (returned x outs) t fine alive))
hands_down_lives g m live tid b (raised k x) fs t fine told alive =
    hands_lives g m live tid (raised k x) fs (hands_over g b [] (raised k x) fs t) fine told (hands_over_alive g m live b [] (raised k x) fs t fine alive)

pub ends_frame_lives : (g : Setting) (m : ℕ) (live : List ℕ → Bool) (tid : List ℕ) (b : Body) (a : Answer) (fs : List Frame) (t : Tables) → AnswerLives g live a → frames_untold g fs ≡ 0
    → AliveIn g m live t → Living g m live (ends_frame g tid b a fs t)
unfolding ends_frame
ends_frame_lives g m live tid b a fs t fine told alive =
    ends_either g m live b.from_peer (unwound fs (answers_peer g tid b [] a t)) (hands_down g tid b a fs t)
    (answers_peer_alive g m live tid b [] a t fine alive, told)
    (hands_down_lives g m live tid b a fs t fine told alive)

pub hands_from_peer_lives : (g : Setting) (m : ℕ) (live : List ℕ → Bool) (tid : List ℕ) (a : Answer) (fs : List Frame) (t : Tables) → AnswerLives g live a → frames_untold g fs ≡ 0
    → AliveIn g m live t → Living g m live (hands_from_peer g tid a fs t)
unfolding hands_from_peer
hands_from_peer_lives g m live tid a fs t fine told alive =
    hands_lives g m live tid a fs (takes_below g fs a t) fine told (takes_below_alive g m live fs a t fine alive)
