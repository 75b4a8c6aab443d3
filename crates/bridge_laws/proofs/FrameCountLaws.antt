-- What references count in the variables of frames and in the fields of objects, under any count: where it is nothing, and nothing comes in, it stays so.
use Rattle.std.proofs.Common.{◌≡◌, ℕ, ◌+◌, ◌≤◌, Bool, true, false, if◌then◌else◌, List, [], ◌∷◌, ◌++◌, Option, None, Some, refl, ap, ◌∙◌, arith}
use Rattle.message_model.specs.Messages.{Message, Answer, returned, raised, reply}
use Rattle.uno_model.specs.Values.{Ref, null, own, peer, Plain, refs}
use Rattle.table_model.specs.declared.holder.Holder.{Holder}
use Rattle.table_model.specs.declared.holder.Holder.TheVariants as holder
use Rattle.plan_model.specs.Frames.{Variable, Body, Frame, base, body, outgoing, Outgoing, Stack}
use Rattle.plan_model.specs.Holdings.{goes_on, let_go_at_end, refs_under}
use Rattle.plan_model.specs.Leaving.{leaving_frame}
use Rattle.bridge_model.specs.Calls.{Unwound, unwound}
use Rattle.bridge_model.specs.Handing.{statement_at, taken_by, goes_on_with, root_gets, lets_go_frame, answers_peer, holder_of, gains_with, gains_below, takes_with, takes_below, hands_over, hands, hands_down, ends_frame, hands_from_peer}
use Rattle.bridge_model.specs.References.{says, releases, is_held, takes, takes_all, loses, stays, gives_back, holds_ref, lets_go, lets_go_all, refs_of_values, refs_of_answer}
use Rattle.bridge_model.specs.Settings.{Setting, own_oid}
use Rattle.bridge_model.specs.Sides.{Object, RootState, idle, waits_call, waits_query, answered, Tables, state_of}
use Rattle.bridge_laws.specs.Counting.{total}
use Rattle.bridge_laws.proofs.EffectLaws.{leaving_frame_counts}
use Rattle.bridge_laws.proofs.HandingLaws.{taken_by_owes, returned_owes}
use Rattle.bridge_laws.proofs.OccurrenceLaws.{gains_all_objects}

-- ---- words

-- what is counted in a frame's variables
unfoldable pub frame_counts : (Ref → ℕ) → Frame → ℕ
frame_counts f (base root) = 0
frame_counts f (body b) = total f (refs_under b.variables)
frame_counts f (outgoing o) = 0

abbrev pub frames_count : (Ref → ℕ) → List Frame → ℕ
frames_count f fs = total (frame_counts f) fs

abbrev pub stacks_count : (Ref → ℕ) → List Stack → ℕ
stacks_count f ss = total (λ s. frames_count f s.frames) ss

-- in the fields of objects
unfoldable pub fields_count : (Ref → ℕ) → Object → ℕ
fields_count f o = total f (refs_of_values o.fields)

abbrev pub objects_count : (Ref → ℕ) → List Object → ℕ
objects_count f os = total (fields_count f) os

-- frames and objects that count nothing
abbrev pub IsFree : (Ref → ℕ) → Unwound → Type 0
IsFree f u = frames_count f u.frames + objects_count f u.tables.objects ≡ 0

-- ---- frames

pub frames_counted : (f : Ref → ℕ) (x : Frame) (fs : List Frame) → frames_count f (x ∷ fs) ≡ frame_counts f x + frames_count f fs
unfolding total
frames_counted f x fs = refl

pub no_frames : (f : Ref → ℕ) → frames_count f [] ≡ 0
unfolding total
no_frames f = refl

pub body_counts : (f : Ref → ℕ) (b : Body) (fs : List Frame) → frames_count f (body b ∷ fs) ≡ total f (refs_under b.variables) + frames_count f fs
unfolding total frame_counts
body_counts f b fs = refl

pub base_counts : (f : Ref → ℕ) (root : ℕ) (fs : List Frame) → frames_count f (base root ∷ fs) ≡ frames_count f fs
unfolding total frame_counts
base_counts f root fs = omega arith

pub outgoing_counts : (f : Ref → ℕ) (o : Outgoing) (fs : List Frame) → frames_count f (outgoing o ∷ fs) ≡ frames_count f fs
unfolding total frame_counts
outgoing_counts f o fs = omega arith

pub goes_on_counts : (f : Ref → ℕ) (b : Body) (xs : List Variable) (fs : List Frame) → frames_count f (body (goes_on xs b) ∷ fs) ≡ total f (refs_under xs) + frames_count f fs
unfolding total frame_counts goes_on
goes_on_counts f b xs fs = refl

-- ---- objects stay

released_objects : (g : Setting) (b : Bool) (oid face : List ℕ) (t : Tables) → (if b then releases g oid face t else t).objects ≡ t.objects
unfolding says
released_objects g true oid face t = refl
released_objects g false oid face t = refl

takes_objects : (g : Setting) (who : Holder) (r : Ref) (t : Tables) → (takes g who r t).objects ≡ t.objects
takes_objects g who null t = refl
takes_objects g who (own oid face) t = refl
takes_objects g who (peer oid face) t = released_objects g (is_held oid face t) oid face t

pub takes_all_objects : (g : Setting) (who : Holder) (rs : List Ref) (t : Tables) → (takes_all g who rs t).objects ≡ t.objects
unfolding takes_all
takes_all_objects g who [] t = refl
takes_all_objects g who (r ∷ rs) t = takes_all_objects g who rs (takes g who r t) ∙ takes_objects g who r t

kept_objects : (g : Setting) (b : Bool) (oid face : List ℕ) (t : Tables) → (if b then t else releases g oid face t).objects ≡ t.objects
unfolding says
kept_objects g true oid face t = refl
kept_objects g false oid face t = refl

back_objects : (g : Setting) (who : Holder) (r : Ref) (t : Tables) → (gives_back g r (loses who r t)).objects ≡ t.objects
back_objects g who null t = refl
back_objects g who (own oid face) t = refl
back_objects g who (peer oid face) t = kept_objects g (stays g oid face (loses who (peer oid face) t)) oid face (loses who (peer oid face) t)

one_of : (b : Bool) (u t : Tables) → u.objects ≡ t.objects → (if b then u else t).objects ≡ t.objects
one_of true u t same = same
one_of false u t same = refl

pub lets_go_objects : (g : Setting) (who : Holder) (r : Ref) (t : Tables) → (lets_go g who r t).objects ≡ t.objects
lets_go_objects g who r t = one_of (holds_ref who r t) (gives_back g r (loses who r t)) t (back_objects g who r t)

pub lets_go_all_objects : (g : Setting) (who : Holder) (rs : List Ref) (t : Tables) → (lets_go_all g who rs t).objects ≡ t.objects
unfolding lets_go_all
lets_go_all_objects g who [] t = refl
lets_go_all_objects g who (r ∷ rs) t = lets_go_all_objects g who rs (lets_go g who r t) ∙ lets_go_objects g who r t

pub says_objects : (g : Setting) (m : Message) (t : Tables) → (says g m t).objects ≡ t.objects
unfolding says
says_objects g m t = refl

lets_go_frame_objects : (g : Setting) (b : Body) (extra : List Ref) (t : Tables) → (lets_go_frame g b extra t).objects ≡ t.objects
lets_go_frame_objects g b extra t = lets_go_all_objects g (holder.Frame b.number) (extra ++ let_go_at_end (own_oid g b.object) b) t

answers_peer_objects : (g : Setting) (tid : List ℕ) (b : Body) (extra : List Ref) (a : Answer) (t : Tables) → (answers_peer g tid b extra a t).objects ≡ t.objects
answers_peer_objects g tid b extra a t = lets_go_frame_objects g b extra (says g (reply tid b.face b.function a) t) ∙ says_objects g (reply tid b.face b.function a) t

gains_with_objects : (who : Option Holder) (rs : List Ref) (t : Tables) → (gains_with who rs t).objects ≡ t.objects
gains_with_objects None rs t = refl
gains_with_objects (Some who) rs t = gains_all_objects who rs t

pub gains_below_objects : (fs : List Frame) (a : Answer) (t : Tables) → (gains_below fs a t).objects ≡ t.objects
gains_below_objects [] a t = refl
gains_below_objects (f ∷ fs) a t = gains_with_objects (holder_of f) (refs_of_answer a) t

takes_with_objects : (g : Setting) (who : Option Holder) (rs : List Ref) (t : Tables) → (takes_with g who rs t).objects ≡ t.objects
takes_with_objects g None rs t = refl
takes_with_objects g (Some who) rs t = takes_all_objects g who rs t

takes_below_objects : (g : Setting) (fs : List Frame) (a : Answer) (t : Tables) → (takes_below g fs a t).objects ≡ t.objects
takes_below_objects g [] a t = refl
takes_below_objects g (f ∷ fs) a t = takes_with_objects g (holder_of f) (refs_of_answer a) t

hands_over_objects : (g : Setting) (b : Body) (extra : List Ref) (a : Answer) (fs : List Frame) (t : Tables) → (hands_over g b extra a fs t).objects ≡ t.objects
hands_over_objects g b extra a fs t = lets_go_frame_objects g b extra (gains_below fs a t) ∙ gains_below_objects fs a t

pub root_gets_objects : (g : Setting) (root : ℕ) (s : RootState) (a : Answer) (t : Tables) → (root_gets g root s a t).objects ≡ t.objects
unfolding root_gets
root_gets_objects g root (waits_query wanted) (returned x outs) t = lets_go_all_objects g (holder.Root root) _ _
root_gets_objects g root (waits_query wanted) (raised k x) t = refl
root_gets_objects g root idle a t = refl
root_gets_objects g root waits_call a t = refl
root_gets_objects g root (answered o) a t = refl

-- ---- answers

pub same_count : (f : Ref → ℕ) (n : ℕ) (u t : Tables) → u.objects ≡ t.objects → n + objects_count f t.objects ≡ 0 → n + objects_count f u.objects ≡ 0
same_count f n u t same free = let alike : objects_count f u.objects ≡ objects_count f t.objects = ap (objects_count f) same in omega arith

free_if : (f : Ref → ℕ) (b : Bool) (u w : Unwound) → IsFree f u → IsFree f w → IsFree f (if b then u else w)
free_if f true u w p q = p
free_if f false u w p q = q

goes_on_with_counts : (f : Ref → ℕ) (g : Setting) (b : Body) (x : Plain) (outs : List Plain) (fs : List Frame) (t : Tables)
    → frames_count f (goes_on_with g b x outs fs t).frames ≤ frames_count f (body b ∷ fs) + total f (refs_of_answer (returned x outs))
unfolding goes_on_with
goes_on_with_counts f g b x outs fs t =
    let before = body_counts f b fs in
    let after = goes_on_counts f b (taken_by g (statement_at g t.objects b) x outs b.variables).variables fs in
    let parts = returned_owes f x outs in
    let enough = taken_by_owes f g (statement_at g t.objects b) x outs b.variables in omega arith

frames_if : (f : Ref → ℕ) (b : Bool) (u w : Unwound) (n : ℕ) → frames_count f u.frames ≤ n → frames_count f w.frames ≤ n → frames_count f (if b then u else w).frames ≤ n
frames_if f true u w n p q = p
frames_if f false u w n p q = q

hands_objects_by : (b : Bool) (u w : Unwound) (t : Tables) → u.tables.objects ≡ t.objects → w.tables.objects ≡ t.objects → (if b then u else w).tables.objects ≡ t.objects
hands_objects_by true u w t p q = p
hands_objects_by false u w t p q = q

goes_on_with_objects : (g : Setting) (b : Body) (x : Plain) (outs : List Plain) (fs : List Frame) (t : Tables) → (goes_on_with g b x outs fs t).tables.objects ≡ t.objects
unfolding goes_on_with
goes_on_with_objects g b x outs fs t = lets_go_all_objects g (holder.Frame b.number) (taken_by g (statement_at g t.objects b) x outs b.variables).let_go t

hands_objects : (g : Setting) (tid : List ℕ) (a : Answer) (fs : List Frame) (t : Tables) → (hands g tid a fs t).tables.objects ≡ t.objects
unfolding hands
hands_objects g tid a [] t = refl
hands_objects g tid a (base root ∷ fs) t = root_gets_objects g root (state_of root t.roots) a t
hands_objects g tid a (outgoing o ∷ fs) t = refl
hands_objects g tid (returned x outs) (body b ∷ fs) t = goes_on_with_objects g b x outs fs t
hands_objects g tid (raised k x) (body b ∷ fs) t =
    let left = leaving_frame g.registry tid b (raised k x) in
    hands_objects_by b.from_peer
    (unwound fs (answers_peer g tid b (refs x) (leaving_frame g.registry tid b (raised k x)) t))
    (hands g tid (leaving_frame g.registry tid b (raised k x)) fs (hands_over g b (refs x) (leaving_frame g.registry tid b (raised k x)) fs t)) t
    (answers_peer_objects g tid b (refs x) (leaving_frame g.registry tid b (raised k x)) t)
    (hands_objects g tid (leaving_frame g.registry tid b (raised k x)) fs (hands_over g b (refs x) (leaving_frame g.registry tid b (raised k x)) fs t)
    ∙ hands_over_objects g b (refs x) (leaving_frame g.registry tid b (raised k x)) fs t)

-- frames that are handed an answer count no more than they did and the answer does
hands_counts : (f : Ref → ℕ) (g : Setting) (tid : List ℕ) (a : Answer) (fs : List Frame) (t : Tables)
    → frames_count f (hands g tid a fs t).frames ≤ frames_count f fs + total f (refs_of_answer a)
unfolding hands
hands_counts f g tid a [] t = omega arith
hands_counts f g tid a (base root ∷ fs) t = let nothing = no_frames f in omega arith
hands_counts f g tid a (outgoing o ∷ fs) t = omega arith
hands_counts f g tid (returned x outs) (body b ∷ fs) t = goes_on_with_counts f g b x outs fs t
hands_counts f g tid (raised k x) (body b ∷ fs) t =
    let left = leaving_frame_counts f g.registry tid b (raised k x) in
    let all = body_counts f b fs in
    let below = hands_counts f g tid (leaving_frame g.registry tid b (raised k x)) fs (hands_over g b (refs x) (leaving_frame g.registry tid b (raised k x)) fs t) in
    frames_if f b.from_peer
    (unwound fs (answers_peer g tid b (refs x) (leaving_frame g.registry tid b (raised k x)) t))
    (hands g tid (leaving_frame g.registry tid b (raised k x)) fs (hands_over g b (refs x) (leaving_frame g.registry tid b (raised k x)) fs t))
    (frames_count f (body b ∷ fs) + total f (refs_of_answer (raised k x)))
    (omega arith) (omega arith)

pub hands_free : (f : Ref → ℕ) (g : Setting) (tid : List ℕ) (a : Answer) (fs : List Frame) (t : Tables)
    → frames_count f fs + total f (refs_of_answer a) + objects_count f t.objects ≡ 0 → IsFree f (hands g tid a fs t)
hands_free f g tid a fs t free =
    let frames = hands_counts f g tid a fs t in
    same_count f (frames_count f (hands g tid a fs t).frames) (hands g tid a fs t).tables t (hands_objects g tid a fs t) (omega arith)

-- ---- frames that end

hands_down_free : (f : Ref → ℕ) (g : Setting) (tid : List ℕ) (b : Body) (a : Answer) (fs : List Frame) (t : Tables)
    → frames_count f fs + total f (refs_of_answer a) + objects_count f t.objects ≡ 0 → IsFree f (hands_down g tid b a fs t)
hands_down_free f g tid b (returned x outs) fs t free =
    let below = hands_counts f g tid (returned x outs) fs (gains_below fs (returned x outs) t) in
    same_count f (frames_count f (hands g tid (returned x outs) fs (gains_below fs (returned x outs) t)).frames)
    (lets_go_frame g b [] (hands g tid (returned x outs) fs (gains_below fs (returned x outs) t)).tables) t
    (lets_go_frame_objects g b [] (hands g tid (returned x outs) fs (gains_below fs (returned x outs) t)).tables
    ∙ (hands_objects g tid (returned x outs) fs (gains_below fs (returned x outs) t) ∙ gains_below_objects fs (returned x outs) t))
    (omega arith)
hands_down_free f g tid b (raised k x) fs t free =
    let below = hands_counts f g tid (raised k x) fs (hands_over g b [] (raised k x) fs t) in
    same_count f (frames_count f (hands g tid (raised k x) fs (hands_over g b [] (raised k x) fs t)).frames)
    (hands g tid (raised k x) fs (hands_over g b [] (raised k x) fs t)).tables t
    (hands_objects g tid (raised k x) fs (hands_over g b [] (raised k x) fs t) ∙ hands_over_objects g b [] (raised k x) fs t)
    (omega arith)

pub ends_frame_free : (f : Ref → ℕ) (g : Setting) (tid : List ℕ) (b : Body) (a : Answer) (fs : List Frame) (t : Tables)
    → frames_count f fs + total f (refs_of_answer a) + objects_count f t.objects ≡ 0 → IsFree f (ends_frame g tid b a fs t)
unfolding ends_frame
ends_frame_free f g tid b a fs t free =
    free_if f b.from_peer (unwound fs (answers_peer g tid b [] a t)) (hands_down g tid b a fs t)
    (same_count f (frames_count f fs) (answers_peer g tid b [] a t) t (answers_peer_objects g tid b [] a t) (omega arith))
    (hands_down_free f g tid b a fs t free)

pub hands_from_peer_free : (f : Ref → ℕ) (g : Setting) (tid : List ℕ) (a : Answer) (fs : List Frame) (t : Tables)
    → frames_count f fs + total f (refs_of_answer a) + objects_count f t.objects ≡ 0 → IsFree f (hands_from_peer g tid a fs t)
unfolding hands_from_peer
hands_from_peer_free f g tid a fs t free =
    hands_free f g tid a fs (takes_below g fs a t)
    (same_count f (frames_count f fs + total f (refs_of_answer a)) (takes_below g fs a t) t (takes_below_objects g fs a t) free)
