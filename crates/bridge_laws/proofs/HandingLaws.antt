-- What frames have is covered: while answers are handed down and frames end.
use Rattle.std.proofs.Common.{◌≡◌, ℕ, ◌+◌, ◌≤◌, Bool, true, false, if◌then◌else◌, List, [], ◌∷◌, ◌++◌, Option, None, Some, refl, ap, ◌∙◌, arith}
use Rattle.message_model.specs.Messages.{Answer, returned, raised, reply}
use Rattle.uno_model.specs.Kinds.{Kind}
use Rattle.uno_model.specs.Values.{Ref, own, Plain, refs}
use Rattle.uno_model.specs.Values as v
use Rattle.table_model.specs.Bags.{how_often}
use Rattle.table_model.specs.Holdings.{Hold, hold_cmp}
use Rattle.table_model.specs.declared.holder.Holder.{Holder}
use Rattle.table_model.specs.declared.holder.Holder.TheVariants as holder
use Rattle.plan_model.specs.Frames.{Variable, Body, Frame, base, body, outgoing, Outgoing}
use Rattle.plan_model.specs.Holdings.{Taken, goes_on, let_go_at_end, refs_under, reference_of, is_taken}
use Rattle.plan_model.specs.Leaving.{leaving_frame}
use Rattle.plan_model.specs.Statements.{Statement, call, query}
use Rattle.bridge_model.specs.Calls.{Unwound, unwound}
use Rattle.bridge_model.specs.Handing.{statement_at, taken_by, goes_on_taking, goes_on_with, root_gets, lets_go_frame, answers_peer, holder_of, gains_with, gains_below, takes_with, takes_below, hands_over, hands, after_letting_go, hands_down, ends_frame, hands_from_peer}
use Rattle.bridge_model.specs.References.{says, refs_of_values, refs_of_answer}
use Rattle.bridge_model.specs.Settings.{Setting, own_oid}
use Rattle.bridge_model.specs.Sides.{RootState, waits_query, answered, answer, Tables, state_of, with_root}
use Rattle.bridge_laws.specs.Counting.{total}
use Rattle.bridge_laws.specs.Covering.{frame_holds}
use Rattle.bridge_laws.proofs.OccurrenceLaws.{ref_owes, refs_owe, refs_owe_is, Covers, says_covers, gains_all_covers, takes_all_covers, lets_go_all_covers}
use Rattle.bridge_laws.proofs.Sums.{total_append, total_push}
use Rattle.bridge_laws.proofs.VariableLaws.{taken_owes, takes_answer_owes, takes_reference_owes, untaken_owes}

-- ---- words

-- how often a frame has an occurrence
unfoldable pub frame_has : Setting → Hold → Frame → ℕ
frame_has g h f = how_often hold_cmp h (frame_holds g f)

abbrev pub frames_have : Setting → Hold → List Frame → ℕ
frames_have g h fs = total (frame_has g h) fs

-- how often a method has what it lets go at its end
abbrev pub body_has : Setting → Hold → Body → ℕ
body_has g h b = refs_owe h (holder.Frame b.number) (let_go_at_end (own_oid g b.object) b)

-- what frames and objects have, and so much more, is held
abbrev pub FramesCover : Setting → Hold → ℕ → Unwound → Type 0
FramesCover g h n u = Covers h (n + frames_have g h u.frames) u.tables

-- how often a holder has references, where there is one
abbrev pub with_owes : Hold → Option Holder → List Ref → ℕ
with_owes h None rs = 0
with_owes h (Some who) rs = refs_owe h who rs

-- how often the top one of these frames has references
abbrev pub top_owes : Hold → List Frame → List Ref → ℕ
top_owes h [] rs = 0
top_owes h (f ∷ fs) rs = with_owes h (holder_of f) rs

-- ---- frames

pub frames_more : (g : Setting) (h : Hold) (f : Frame) (fs : List Frame) → frames_have g h (f ∷ fs) ≡ frame_has g h f + frames_have g h fs
unfolding total
frames_more g h f fs = refl

pub frames_none : (g : Setting) (h : Hold) → frames_have g h [] ≡ 0
unfolding total
frames_none g h = refl

pub base_has : (g : Setting) (h : Hold) (root : ℕ) → frame_has g h (base root) ≡ 0
unfolding frame_has
base_has g h root = refl

pub outgoing_has : (g : Setting) (h : Hold) (o : Outgoing) → frame_has g h (outgoing o) ≡ 0
unfolding frame_has
outgoing_has g h o = refl

pub method_has : (g : Setting) (h : Hold) (b : Body) → frame_has g h (body b) ≡ body_has g h b
unfolding frame_has
method_has g h b = refs_owe_is h (holder.Frame b.number) (let_go_at_end (own_oid g b.object) b)

pub method_more : (g : Setting) (h : Hold) (b : Body) (fs : List Frame) → frames_have g h (body b ∷ fs) ≡ body_has g h b + frames_have g h fs
method_more g h b fs = frames_more g h (body b) fs ∙ ap (λ n. n + frames_have g h fs) (method_has g h b)

pub base_more : (g : Setting) (h : Hold) (root : ℕ) (fs : List Frame) → frames_have g h (base root ∷ fs) ≡ frames_have g h fs
base_more g h root fs = let here = base_has g h root in let more = frames_more g h (base root) fs in omega arith

pub outgoing_more : (g : Setting) (h : Hold) (o : Outgoing) (fs : List Frame) → frames_have g h (outgoing o ∷ fs) ≡ frames_have g h fs
outgoing_more g h o fs = let here = outgoing_has g h o in let more = frames_more g h (outgoing o) fs in omega arith

-- a method has what its variables have, and its own object
pub body_parts : (g : Setting) (h : Hold) (b : Body)
    → body_has g h b ≡ refs_owe h (holder.Frame b.number) (refs_under b.variables) + ref_owes h (holder.Frame b.number) (own (own_oid g b.object) b.face)
unfolding let_go_at_end
body_parts g h b = total_push (ref_owes h (holder.Frame b.number)) (refs_under b.variables) (own (own_oid g b.object) b.face)

-- a method that goes on has its new variables in the place of those before
pub goes_on_has : (g : Setting) (h : Hold) (b : Body) (xs : List Variable)
    → body_has g h (goes_on xs b) + refs_owe h (holder.Frame b.number) (refs_under b.variables) ≡ body_has g h b + refs_owe h (holder.Frame b.number) (refs_under xs)
unfolding goes_on
goes_on_has g h b xs = let before = body_parts g h b in let after = body_parts g h (goes_on xs b) in omega arith

-- ---- going on with an answer

pub returned_owes : (f : Ref → ℕ) (x : Plain) (outs : List Plain) → total f (refs_of_answer (returned x outs)) ≡ total f (refs x) + total f (refs_of_values outs)
unfolding refs_of_answer
returned_owes f x outs = total_append f (refs x) (refs_of_values outs)

pub raised_owes : (f : Ref → ℕ) (k : Kind) (x : Plain) → total f (refs_of_answer (raised k x)) ≡ total f (refs x)
unfolding refs_of_answer
raised_owes f k x = refl

pub taken_by_owes : (f : Ref → ℕ) (g : Setting) (s : Option Statement) (x : Plain) (outs : List Plain) (xs : List Variable)
    → taken_owes f (taken_by g s x outs xs) ≤ total f (refs_under xs) + (total f (refs x) + total f (refs_of_values outs))
taken_by_owes f g (Some (call c)) x outs xs = takes_answer_owes f c x outs xs
taken_by_owes f g (Some (query q)) x outs xs = let taken = takes_reference_owes f g.registry q.wanted q.to x xs in omega arith
taken_by_owes f g s x outs xs = let parts = total_append f (refs x) (refs_of_values outs) in omega arith

goes_on_taking_covers : (g : Setting) (b : Body) (taken : Taken) (fs : List Frame) (h : Hold) (n more : ℕ) (t : Tables)
    → taken_owes (ref_owes h (holder.Frame b.number)) taken ≤ refs_owe h (holder.Frame b.number) (refs_under b.variables) + more
    → Covers h (n + (frames_have g h (body b ∷ fs) + more)) t → FramesCover g h n (goes_on_taking g b taken fs t)
goes_on_taking_covers g b taken fs h n more t enough fine =
    let before = method_more g h b fs in
    let after = method_more g h (goes_on taken.variables b) fs in
    let on = goes_on_has g h b taken.variables in
    lets_go_all_covers g (holder.Frame b.number) taken.let_go h (n + frames_have g h (body (goes_on taken.variables b) ∷ fs)) t (omega arith)

goes_on_with_covers : (g : Setting) (b : Body) (x : Plain) (outs : List Plain) (fs : List Frame) (h : Hold) (n : ℕ) (t : Tables)
    → Covers h (n + (frames_have g h (body b ∷ fs) + refs_owe h (holder.Frame b.number) (refs_of_answer (returned x outs)))) t
    → FramesCover g h n (goes_on_with g b x outs fs t)
unfolding goes_on_with
goes_on_with_covers g b x outs fs h n t fine =
    let parts = returned_owes (ref_owes h (holder.Frame b.number)) x outs in
    let enough = taken_by_owes (ref_owes h (holder.Frame b.number)) g (statement_at g t.objects b) x outs b.variables in
    goes_on_taking_covers g b (taken_by g (statement_at g t.objects b) x outs b.variables) fs h n
    (refs_owe h (holder.Frame b.number) (refs_of_answer (returned x outs))) t
    (omega arith) fine

-- ---- roots

-- a root lets go no more than an answer brought
pub root_gets_covers : (g : Setting) (root : ℕ) (s : RootState) (a : Answer) (h : Hold) (n : ℕ) (t : Tables)
    → Covers h (n + refs_owe h (holder.Root root) (refs_of_answer a)) t → Covers h n (root_gets g root s a t)
unfolding root_gets
root_gets_covers g root (waits_query wanted) (returned x outs) h n t fine =
    let parts = returned_owes (ref_owes h (holder.Root root)) x outs in
    let untaken = untaken_owes (ref_owes h (holder.Root root)) g.registry wanted x in
    lets_go_all_covers g (holder.Root root) (if is_taken g.registry wanted x then [] else refs x) h n
    (with_root root (answered (answer (returned (v.ref (reference_of g.registry wanted x)) []))) t)
    (omega arith)
root_gets_covers g root s a h n t fine = omega arith

-- ---- frames that end

lets_go_frame_covers : (g : Setting) (b : Body) (extra : List Ref) (h : Hold) (n : ℕ) (t : Tables)
    → Covers h (n + (body_has g h b + refs_owe h (holder.Frame b.number) extra)) t → Covers h n (lets_go_frame g b extra t)
lets_go_frame_covers g b extra h n t fine =
    let parts = total_append (ref_owes h (holder.Frame b.number)) extra (let_go_at_end (own_oid g b.object) b) in
    lets_go_all_covers g (holder.Frame b.number) (extra ++ let_go_at_end (own_oid g b.object) b) h n t (omega arith)

answers_peer_covers : (g : Setting) (tid : List ℕ) (b : Body) (extra : List Ref) (a : Answer) (h : Hold) (n : ℕ) (t : Tables)
    → Covers h (n + (body_has g h b + refs_owe h (holder.Frame b.number) extra)) t → Covers h n (answers_peer g tid b extra a t)
answers_peer_covers g tid b extra a h n t fine =
    lets_go_frame_covers g b extra h n (says g (reply tid b.face b.function a) t)
    (says_covers g (reply tid b.face b.function a) h (n + (body_has g h b + refs_owe h (holder.Frame b.number) extra)) t fine)

gains_with_covers : (who : Option Holder) (rs : List Ref) (h : Hold) (n : ℕ) (t : Tables) → Covers h n t → Covers h (n + with_owes h who rs) (gains_with who rs t)
gains_with_covers None rs h n t fine = omega arith
gains_with_covers (Some who) rs h n t fine = gains_all_covers who rs h n t fine

pub gains_below_covers : (fs : List Frame) (a : Answer) (h : Hold) (n : ℕ) (t : Tables) → Covers h n t → Covers h (n + top_owes h fs (refs_of_answer a)) (gains_below fs a t)
gains_below_covers [] a h n t fine = omega arith
gains_below_covers (f ∷ fs) a h n t fine = gains_with_covers (holder_of f) (refs_of_answer a) h n t fine

takes_with_covers : (g : Setting) (who : Option Holder) (rs : List Ref) (h : Hold) (n : ℕ) (t : Tables) → Covers h n t → Covers h (n + with_owes h who rs) (takes_with g who rs t)
takes_with_covers g None rs h n t fine = omega arith
takes_with_covers g (Some who) rs h n t fine = takes_all_covers g who rs h n t fine

pub takes_below_covers : (g : Setting) (fs : List Frame) (a : Answer) (h : Hold) (n : ℕ) (t : Tables) → Covers h n t
    → Covers h (n + top_owes h fs (refs_of_answer a)) (takes_below g fs a t)
takes_below_covers g [] a h n t fine = omega arith
takes_below_covers g (f ∷ fs) a h n t fine = takes_with_covers g (holder_of f) (refs_of_answer a) h n t fine

pub hands_over_covers : (g : Setting) (b : Body) (extra : List Ref) (a : Answer) (fs : List Frame) (h : Hold) (n : ℕ) (t : Tables)
    → Covers h (n + (body_has g h b + refs_owe h (holder.Frame b.number) extra)) t → Covers h (n + top_owes h fs (refs_of_answer a)) (hands_over g b extra a fs t)
hands_over_covers g b extra a fs h n t fine =
    let gained = gains_below_covers fs a h (n + (body_has g h b + refs_owe h (holder.Frame b.number) extra)) t fine in
    lets_go_frame_covers g b extra h (n + top_owes h fs (refs_of_answer a)) (gains_below fs a t) (omega arith)

-- ---- handing

-- what is handed to frames: what they have, and what their top one has of the answer
abbrev pub Handed : Setting → Hold → ℕ → List Frame → Answer → Tables → Type 0
Handed g h n fs a t = Covers h (n + (frames_have g h fs + top_owes h fs (refs_of_answer a))) t

raises_on : (g : Setting) (h : Hold) (n : ℕ) (b : Bool) (to_peer below : Unwound) → FramesCover g h n to_peer → FramesCover g h n below
    → FramesCover g h n (if b then to_peer else below)
raises_on g h n true to_peer below there here = there
raises_on g h n false to_peer below there here = here

pub hands_covers : (g : Setting) (tid : List ℕ) (a : Answer) (fs : List Frame) (h : Hold) (n : ℕ) (t : Tables) → Handed g h n fs a t → FramesCover g h n (hands g tid a fs t)
unfolding hands
hands_covers g tid a [] h n t fine = omega arith
hands_covers g tid a (base root ∷ fs) h n t fine =
    let nothing = frames_none g h in
    root_gets_covers g root (state_of root t.roots) a h (n + frames_have g h []) t (omega arith)
hands_covers g tid a (outgoing o ∷ fs) h n t fine = omega arith
hands_covers g tid (returned x outs) (body b ∷ fs) h n t fine = goes_on_with_covers g b x outs fs h n t fine
hands_covers g tid (raised k x) (body b ∷ fs) h n t fine =
    let all = method_more g h b fs in
    let parts = raised_owes (ref_owes h (holder.Frame b.number)) k x in
    raises_on g h n b.from_peer
    (unwound fs (answers_peer g tid b (refs x) (leaving_frame g.registry tid b (raised k x)) t))
    (hands g tid (leaving_frame g.registry tid b (raised k x)) fs (hands_over g b (refs x) (leaving_frame g.registry tid b (raised k x)) fs t))
    (answers_peer_covers g tid b (refs x) (leaving_frame g.registry tid b (raised k x)) h (n + frames_have g h fs) t (omega arith))
    (let over = hands_over_covers g b (refs x) (leaving_frame g.registry tid b (raised k x)) fs h (n + frames_have g h fs) t (omega arith) in
    hands_covers g tid (leaving_frame g.registry tid b (raised k x)) fs h n (hands_over g b (refs x) (leaving_frame g.registry tid b (raised k x)) fs t) (omega arith))

-- ---- the end of a frame

after_covers : (g : Setting) (b : Body) (u : Unwound) (h : Hold) (n : ℕ) → FramesCover g h (n + body_has g h b) u → FramesCover g h n (after_letting_go g b u)
unfolding total
after_covers g b u h n fine = lets_go_frame_covers g b [] h (n + frames_have g h u.frames) u.tables (omega arith)

hands_down_covers : (g : Setting) (tid : List ℕ) (b : Body) (a : Answer) (fs : List Frame) (h : Hold) (n : ℕ) (t : Tables)
    → Covers h (n + frames_have g h (body b ∷ fs)) t → FramesCover g h n (hands_down g tid b a fs t)
unfolding total
hands_down_covers g tid b (returned x outs) fs h n t fine =
    let all = method_more g h b fs in
    let gained = gains_below_covers fs (returned x outs) h (n + frames_have g h (body b ∷ fs)) t fine in
    after_covers g b (hands g tid (returned x outs) fs (gains_below fs (returned x outs) t)) h n
    (hands_covers g tid (returned x outs) fs h (n + body_has g h b) (gains_below fs (returned x outs) t) (omega arith))
hands_down_covers g tid b (raised k x) fs h n t fine =
    let all = method_more g h b fs in
    let over = hands_over_covers g b [] (raised k x) fs h (n + frames_have g h fs) t (omega arith) in
    hands_covers g tid (raised k x) fs h n (hands_over g b [] (raised k x) fs t) (omega arith)

pub ends_frame_covers : (g : Setting) (tid : List ℕ) (b : Body) (a : Answer) (fs : List Frame) (h : Hold) (n : ℕ) (t : Tables)
    → Covers h (n + frames_have g h (body b ∷ fs)) t → FramesCover g h n (ends_frame g tid b a fs t)
unfolding ends_frame total
ends_frame_covers g tid b a fs h n t fine =
    let all = method_more g h b fs in
    raises_on g h n b.from_peer (unwound fs (answers_peer g tid b [] a t)) (hands_down g tid b a fs t)
    (answers_peer_covers g tid b [] a h (n + frames_have g h fs) t (omega arith))
    (hands_down_covers g tid b a fs h n t fine)

pub hands_from_peer_covers : (g : Setting) (tid : List ℕ) (a : Answer) (fs : List Frame) (h : Hold) (n : ℕ) (t : Tables)
    → Covers h (n + frames_have g h fs) t → FramesCover g h n (hands_from_peer g tid a fs t)
unfolding hands_from_peer
hands_from_peer_covers g tid a fs h n t fine =
    let taken = takes_below_covers g fs a h (n + frames_have g h fs) t fine in
    hands_covers g tid a fs h n (takes_below g fs a t) (omega arith)
