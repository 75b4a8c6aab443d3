-- What a root has is held while tables change: states of roots, and references that others gain and let go.
use Rattle.std.proofs.Common.{◌≡◌, refl, sym, ap, subst, ◌∙◌, ℕ, zero, suc, ◌+◌, ◌≤◌, Bool, true, false, cond, ◌==◌, eqb-true, eq-eqb, List, [], ◌∷◌, map, unwrap_or, slice_get, slice_set, arith}
use Rattle.std.proofs.lemmas.Bool.{true≢false}
use Rattle.std.specs.Ordering.{eq_by_cmp}
use Rattle.message_model.specs.Messages.{Answer}
use Rattle.uno_model.specs.Values.{Ref, own}
use Rattle.table_model.specs.Holdings.{Hold, holder_cmp}
use Rattle.table_model.specs.declared.holder.Holder.{Holder}
use Rattle.table_model.specs.declared.holder.Holder.TheVariants as holder
use Rattle.plan_model.specs.Frames.{Frame, base, body, outgoing}
use Rattle.plan_model.specs.Holdings.{let_go_at_end}
use Rattle.bridge_model.specs.Calls.{Unwound}
use Rattle.bridge_model.specs.Ends.{state_at_end}
use Rattle.bridge_model.specs.Entries.{Entry, made, dropped, took}
use Rattle.bridge_model.specs.References.{gains_all, takes_all, lets_go_all, refs_of_answer}
use Rattle.bridge_model.specs.RootRuns.{is_of_root}
use Rattle.bridge_model.specs.Settings.{Setting, own_oid, ref_of}
use Rattle.bridge_model.specs.Sides.{RootState, idle, waits_call, waits_query, answered, answer, Tables, Side, state_of, states_with, with_root}
use Rattle.bridge_model.specs.declared.cause.Cause.{Cause}
use Rattle.bridge_model.specs.declared.cause.Cause.TheVariants as cause
use Rattle.bridge_laws.specs.Counting.{total}
use Rattle.bridge_laws.proofs.HandingLaws.{frame_has, frames_have, FramesCover, base_has, outgoing_has, method_has}
use Rattle.bridge_laws.proofs.ObjectLaws.{all_apart}
use Rattle.bridge_laws.proofs.OccurrenceLaws.{ref_owes, refs_owe, Covers, gains_all_covers, takes_all_covers, lets_go_all_covers}
use Rattle.bridge_laws.proofs.RootStateLaws.{state_other, stay_gains_all, stay_takes_all, stay_lets_go_all}
use Rattle.bridge_laws.proofs.Sums.{total_none}
use Rattle.bridge_laws.specs.RootReferences.{state_refs}

-- ---- words

-- what the references in a root's outcome count
unfoldable pub state_counts : (Ref → ℕ) → RootState → ℕ
state_counts f x = total f (state_refs x)

abbrev pub counts_in : (Ref → ℕ) → ℕ → List RootState → ℕ
counts_in f k roots = state_counts f (state_of k roots)

-- how often a root has an occurrence in its outcome
abbrev pub owed_in : Hold → ℕ → List RootState → ℕ
owed_in h k roots = counts_in (ref_owes h (holder.Root k)) k roots

-- what the outcome of a root has, and so much more, is held
abbrev pub Rooted : Hold → ℕ → ℕ → Tables → Type 0
Rooted h k n t = Covers h (n + owed_in h k t.roots) t

-- what an entry of a root brings to its run: a new object, and the outcome that it takes
abbrev pub gain : Setting → (Ref → ℕ) → ℕ → Side → Entry → ℕ
gain g f k s (made root behaviour wanted) = cond (k == root) (f (own (own_oid g (suc s.tables.objects_made)) wanted)) 0
gain g f k s (took root) = cond (k == root) (counts_in f k s.tables.roots) 0
gain g f k s e = 0

-- and the reference that it lets go
abbrev pub loss : Setting → (Ref → ℕ) → ℕ → Entry → ℕ
loss g f k (dropped root oid face) = cond (k == root) (f (ref_of g oid face)) 0
loss g f k e = 0

-- an entry of another root lets nothing of this one go
pub no_loss : (g : Setting) (f : Ref → ℕ) (k : ℕ) (e : Entry) → is_of_root k e ≡ false → loss g f k e ≡ 0
no_loss g f k (dropped root oid face) other = ap (λ b. cond b (f (ref_of g oid face)) 0) other
no_loss g f k e other = refl

-- ---- states

pub idle_counts : (f : Ref → ℕ) → state_counts f idle ≡ 0
unfolding state_counts total
idle_counts f = refl

pub waits_call_counts : (f : Ref → ℕ) → state_counts f waits_call ≡ 0
unfolding state_counts total
waits_call_counts f = refl

pub waits_query_counts : (f : Ref → ℕ) (wanted : List ℕ) → state_counts f (waits_query wanted) ≡ 0
unfolding state_counts total
waits_query_counts f wanted = refl

pub answered_counts : (f : Ref → ℕ) (a : Answer) → state_counts f (answered (answer a)) ≡ total f (refs_of_answer a)
unfolding state_counts
answered_counts f a = refl

set_at : (f : Ref → ℕ) (n : ℕ) (x : RootState) (states : List RootState) → state_counts f (unwrap_or (slice_get (slice_set states n x) n) idle) ≤ state_counts f x
set_at f n x [] = let none = idle_counts f in omega arith
set_at f zero x (y ∷ states) = omega arith
set_at f (suc n) x (y ∷ states) = set_at f n x states

-- a root that is not there has nothing
pub set_counts : (f : Ref → ℕ) (k : ℕ) (x : RootState) (states : List RootState) → counts_in f k (states_with k x states) ≤ state_counts f x
unfolding state_of states_with
set_counts f zero x states = let none = idle_counts f in omega arith
set_counts f (suc n) x states = set_at f n x states

pub not_same : (k root : ℕ) → (k == root) ≡ false → k ≡ root → ⊥
not_same k root is same = true≢false (sym (eq-eqb k root same) ∙ is)

set_by : (f : Ref → ℕ) (k root : ℕ) (x : RootState) (states : List RootState) (b : Bool) → (k == root) ≡ b
    → counts_in f k (states_with root x states) ≤ counts_in f k states + state_counts f x
set_by f k root x states true is =
    subst (λ r. counts_in f k (states_with r x states) ≤ counts_in f k states + state_counts f x) (eqb-true k root is) (let most = set_counts f k x states in omega arith)
set_by f k root x states false is =
    let same : counts_in f k (states_with root x states) ≡ counts_in f k states = ap (state_counts f) (state_other root k x states (not_same k root is)) in omega arith

-- whichever root gets a state
pub set_at_most : (f : Ref → ℕ) (k root : ℕ) (x : RootState) (states : List RootState) → counts_in f k (states_with root x states) ≤ counts_in f k states + state_counts f x
set_at_most f k root x states = set_by f k root x states (k == root) refl

-- a root gets a state without an outcome
pub quiet_state : (h : Hold) (k root : ℕ) (x : RootState) (n : ℕ) (t : Tables) → state_counts (ref_owes h (holder.Root k)) x ≡ 0 → Rooted h k n t → Rooted h k n (with_root root x t)
quiet_state h k root x n t none fine = let most = set_at_most (ref_owes h (holder.Root k)) k root x t.roots in omega arith

-- a root takes its outcome
pub taken_state : (h : Hold) (k n : ℕ) (t : Tables) → Rooted h k n t → Rooted h k (n + owed_in h k t.roots) (with_root k idle t)
taken_state h k n t fine = let most = set_counts (ref_owes h (holder.Root k)) k idle t.roots in let none = idle_counts (ref_owes h (holder.Root k)) in omega arith

ended_state : (f : Ref → ℕ) (why : Cause) (x : RootState) → state_counts f (state_at_end why x) ≤ state_counts f x
unfolding state_counts total
ended_state f why idle = omega arith
ended_state f cause.NoMemory waits_call = omega arith
ended_state f why waits_call = omega arith
ended_state f cause.NoMemory (waits_query wanted) = omega arith
ended_state f why (waits_query wanted) = omega arith
ended_state f why (answered o) = omega arith

ended_at : (f : Ref → ℕ) (why : Cause) (n : ℕ) (states : List RootState)
    → state_counts f (unwrap_or (slice_get (map (state_at_end why) states) n) idle) ≤ state_counts f (unwrap_or (slice_get states n) idle)
ended_at f why n [] = omega arith
ended_at f why zero (x ∷ states) = ended_state f why x
ended_at f why (suc n) (x ∷ states) = ended_at f why n states

-- the end brings no references
pub ended_counts : (f : Ref → ℕ) (k : ℕ) (why : Cause) (states : List RootState) → counts_in f k (map (state_at_end why) states) ≤ counts_in f k states
unfolding state_of
ended_counts f zero why states = omega arith
ended_counts f (suc n) why states = ended_at f why n states

-- ---- tables

-- where roots stay, and so much more is held
pub moved_to : (h : Hold) (k n m : ℕ) (t u : Tables) → u.roots ≡ t.roots → Covers h (n + owed_in h k t.roots + m) u → Rooted h k (n + m) u
moved_to h k n m t u same fine = let alike : owed_in h k u.roots ≡ owed_in h k t.roots = ap (owed_in h k) same in omega arith

pub kept_in : (h : Hold) (k n : ℕ) (t u : Tables) → u.roots ≡ t.roots → Covers h (n + owed_in h k t.roots) u → Rooted h k n u
kept_in h k n t u same fine = let alike : owed_in h k u.roots ≡ owed_in h k t.roots = ap (owed_in h k) same in omega arith

-- of frames and tables, frames have nothing
pub unwound_in : (g : Setting) (h : Hold) (k n : ℕ) (t : Tables) (u : Unwound) → u.tables.roots ≡ t.roots → FramesCover g h (n + owed_in h k t.roots) u → Rooted h k n u.tables
unwound_in g h k n t u same fine = let alike : owed_in h k u.tables.roots ≡ owed_in h k t.roots = ap (owed_in h k) same in omega arith

pub gains_rooted : (h : Hold) (k : ℕ) (who : Holder) (rs : List Ref) (n : ℕ) (t : Tables) → Rooted h k n t → Rooted h k (n + refs_owe h who rs) (gains_all who rs t)
gains_rooted h k who rs n t fine = moved_to h k n (refs_owe h who rs) t (gains_all who rs t) (stay_gains_all who rs t) (gains_all_covers who rs h (n + owed_in h k t.roots) t fine)

pub takes_rooted : (g : Setting) (h : Hold) (k : ℕ) (who : Holder) (rs : List Ref) (n : ℕ) (t : Tables) → Rooted h k n t → Rooted h k (n + refs_owe h who rs) (takes_all g who rs t)
takes_rooted g h k who rs n t fine =
    moved_to h k n (refs_owe h who rs) t (takes_all g who rs t) (stay_takes_all g who rs t) (takes_all_covers g who rs h (n + owed_in h k t.roots) t fine)

pub lets_go_rooted : (g : Setting) (h : Hold) (k : ℕ) (who : Holder) (rs : List Ref) (n : ℕ) (t : Tables) → Rooted h k (n + refs_owe h who rs) t → Rooted h k n (lets_go_all g who rs t)
lets_go_rooted g h k who rs n t fine =
    kept_in h k n t (lets_go_all g who rs t) (stay_lets_go_all g who rs t) (lets_go_all_covers g who rs h (n + owed_in h k t.roots) t (omega arith))

-- ---- what frames have is no root's

pub frame_owes : (h : Hold) (k : ℕ) → h.holder ≡ holder.Root k → (n : ℕ) (rs : List Ref) → refs_owe h (holder.Frame n) rs ≡ 0
frame_owes h k is n rs = all_apart h (holder.Frame n) rs (ap (λ who. eq_by_cmp holder_cmp who (holder.Frame n)) is)

frame_none : (g : Setting) (h : Hold) (k : ℕ) → h.holder ≡ holder.Root k → (f : Frame) → frame_has g h f ≡ 0
frame_none g h k is (base root) = base_has g h root
frame_none g h k is (outgoing o) = outgoing_has g h o
frame_none g h k is (body b) = method_has g h b ∙ frame_owes h k is b.number (let_go_at_end (own_oid g b.object) b)

pub frames_owe_none : (g : Setting) (h : Hold) (k : ℕ) → h.holder ≡ holder.Root k → (fs : List Frame) → frames_have g h fs ≡ 0
frames_owe_none g h k is fs = total_none (frame_has g h) (frame_none g h k is) fs

pub with_frames : (g : Setting) (h : Hold) (k : ℕ) → h.holder ≡ holder.Root k → (fs : List Frame) (n : ℕ) (t : Tables) → Rooted h k n t → Covers h (n + owed_in h k t.roots + frames_have g h fs) t
with_frames g h k is fs n t fine = let none = frames_owe_none g h k is fs in omega arith
