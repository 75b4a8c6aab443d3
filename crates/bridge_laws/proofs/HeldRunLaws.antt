-- What a root has is held, in every history for which its run stands.
use Rattle.std.proofs.Common.{◌≡◌, refl, sym, ap, subst, ◌∙◌, ℕ, zero, suc, ◌+◌, ◌≤◌, Bool, true, false, if◌then◌else◌, List, [], ◌∷◌, ◌++◌, length, replicate, unwrap_or, slice_get, Option, None, Some, arith}
use Rattle.uno_model.specs.Values.{Ref}
use Rattle.table_model.specs.Bags.{how_often}
use Rattle.table_model.specs.Holdings.{Hold, hold, hold_cmp}
use Rattle.table_model.specs.declared.holder.Holder.TheVariants as holder
use Rattle.plan_model.specs.Holdings.{refs_under}
use Rattle.plan_model.specs.Plans.{first_objects}
use Rattle.plan_model.specs.Roots.{Run, opening_run}
use Rattle.bridge_model.specs.Entries.{Entry, dropped, counts}
use Rattle.bridge_model.specs.Histories.{Told, nothing_told, told_more, told_by, tells, tells_all, replay, Leads}
use Rattle.bridge_model.specs.RootRuns.{StandsFor, begun, another, entered, passed}
use Rattle.bridge_model.specs.Settings.{Setting}
use Rattle.bridge_model.specs.Sides.{idle, Side, state_of}
use Rattle.bridge_model.specs.Steps.{no_objects, opening, Turn, step, counted, may, does}
use Rattle.bridge_laws.specs.Counting.{total}
use Rattle.bridge_laws.specs.Covering.{holds_of}
use Rattle.bridge_laws.proofs.CoveringLaws.{opening_covers}
use Rattle.bridge_laws.proofs.OccurrenceLaws.{times, ref_owes, refs_owe_is}
use Rattle.bridge_laws.proofs.Replays.{of_step}
use Rattle.bridge_laws.proofs.RootStateLaws.{stay_makes_all}
use Rattle.bridge_laws.proofs.Sums.{total_append}
use Rattle.bridge_laws.specs.RootReferences.{state_refs, run_refs, root_refs, HoldsItsOwn}
use Rattle.bridge_laws.proofs.EntryLaws.{does_rooted}
use Rattle.bridge_laws.proofs.HeldMoveLaws.{has, root_moves_so, occurrences_homely}
use Rattle.bridge_laws.proofs.StateLaws.{state_counts, counts_in, owed_in, Rooted, gain, loss, no_loss, idle_counts}

-- ---- the last step of a history

pub nowhere : (g : Setting) (es : List Entry) (x : Told) → tells_all g None es ≡ Some x → ⊥
unfolding tells_all
nowhere g [] x is = absurd (cc)
nowhere g (e ∷ es) x is = absurd (cc)

pub same_told : (y x : Told) → ◌≡◌ {A = Option Told} (Some y) (Some x) → y ≡ x
same_told y x is = cc

-- what holds behind the step of an entry, wherever it may stand
abbrev pub HoldsBehind : Setting → (Side → Type 0) → Entry → Side → Type 0
HoldsBehind g P e z = may g z e ≡ true → P (counted e (does g e z).side)

one_step : (g : Setting) (P : Side → Type 0) (e : Entry) (y x : Told) (o : Option Turn) → step g y.side e ≡ o → HoldsBehind g P e y.side → tells_all g (told_by y e o) [] ≡ Some x → P x.side
unfolding tells_all
one_step g P e y x None is holds to = absurd (cc)
one_step g P e y x (Some u) is holds to = subst (λ (w : Told). P w.side) (same_told (told_more y e u) x to) (of_step g y.side e u (λ v. P v.side) (λ may_it. holds may_it) is)

last_from : (g : Setting) (P : Side → Type 0) (o : Option Told) (es : List Entry) (e : Entry) (x : Told) → ((z : Told) → tells_all g o es ≡ Some z → HoldsBehind g P e z.side)
    → tells_all g o (es ++ e ∷ []) ≡ Some x → P x.side
unfolding tells_all
last_from g P None es e x holds to = absurd (nowhere g (es ++ e ∷ []) x to)
last_from g P (Some y) [] e x holds to = one_step g P e y x (step g y.side e) refl (holds y refl) to
last_from g P (Some y) (f ∷ es) e x holds to = last_from g P (tells g y f) es e x holds to

pub last_step : (g : Setting) (P : Side → Type 0) (es : List Entry) (e : Entry) (x : Told) → ((z : Told) → Leads g es z → HoldsBehind g P e z.side) → Leads g (es ++ e ∷ []) x → P x.side
unfolding replay
last_step g P es e x holds leads = last_from g P (Some (nothing_told g)) es e x holds leads

-- ---- entries

counted_rooted : (h : Hold) (k n : ℕ) (s : Side) (b : Bool) → Rooted h k n s.tables → Rooted h k n (if b then record s { entries = suc s.entries } else s).tables
counted_rooted h k n s true fine = fine
counted_rooted h k n s false fine = fine

-- an entry that does not let go and gain at once
entry_rooted : (g : Setting) (h : Hold) (k : ℕ) → h.holder ≡ holder.Root k → (e : Entry) (a b : ℕ) (s : Side) → a + loss g (ref_owes h (holder.Root k)) k e ≤ b + gain g (ref_owes h (holder.Root k)) k s e → Rooted h k b s.tables
    → Rooted h k a (does g e s).side.tables
entry_rooted g h k of_root (dropped root oid face) a b s most fine = let rest = does_rooted g h k of_root (dropped root oid face) a s (omega arith) in omega arith
entry_rooted g h k of_root e a b s most fine = let rest = does_rooted g h k of_root e b s (omega arith) in omega arith

behind_entry : (g : Setting) (h : Hold) (k : ℕ) → h.holder ≡ holder.Root k → (e : Entry) (a b : ℕ) (s : Side) → a + loss g (ref_owes h (holder.Root k)) k e ≤ b + gain g (ref_owes h (holder.Root k)) k s e → Rooted h k b s.tables
    → Rooted h k a (counted e (does g e s).side).tables
behind_entry g h k of_root e a b s most fine = counted_rooted h k a (does g e s).side (counts e) (entry_rooted g h k of_root e a b s most fine)

-- ---- runs

idle_at : (f : Ref → ℕ) (m n : ℕ) → state_counts f (unwrap_or (slice_get (replicate m idle) n) idle) ≡ 0
idle_at f zero n = idle_counts f
idle_at f (suc m) zero = idle_counts f
idle_at f (suc m) (suc n) = idle_at f m n

pub all_idle : (f : Ref → ℕ) (k m : ℕ) → counts_in f k (replicate m idle) ≡ 0
unfolding state_of
all_idle f zero m = idle_counts f
all_idle f (suc n) m = idle_at f m n

opening_rooted : (g : Setting) (h : Hold) (k : ℕ) → Rooted h k 0 (opening g).tables
unfolding opening
opening_rooted g h k =
    let covers = opening_covers g h in
    let same : owed_in h k (opening g).tables.roots ≡ owed_in h k (replicate (length g.plan.threads) idle) = ap (owed_in h k) (stay_makes_all g (first_objects g.plan) (no_objects g.plan)) in
    let none = all_idle (ref_owes h (holder.Root k)) k (length g.plan.threads) in omega arith

-- what a run has is held by its root
abbrev RunHeld : Hold → Run → Side → Type 0
RunHeld h r s = Rooted h r.root (has (ref_owes h (holder.Root r.root)) r) s.tables

first_held : (g : Setting) (h : Hold) (root : ℕ) (instance : List ℕ) (x : Told) → Leads g [] x → RunHeld h (opening_run root instance) x.side
unfolding opening_run replay tells_all total refs_under
first_held g h root instance x leads = subst (λ (y : Told). Rooted h root 0 y.side.tables) (same_told (nothing_told g) x leads) (opening_rooted g h root)

pub same_lead : (g : Setting) (es : List Entry) (x y : Told) → Leads g es x → Leads g es y → x ≡ y
same_lead g es x y p q = same_told x y (sym p ∙ q)

as_root : (h : Hold) (k : ℕ) (next : Run) (s : Side) → next.root ≡ k → Rooted h k (has (ref_owes h (holder.Root k)) next) s.tables → RunHeld h next s
as_root h k next s is fine = subst (λ m. Rooted h m (has (ref_owes h (holder.Root m)) next) s.tables) (sym is) fine

pub run_held : (g : Setting) (h : Hold) (es : List Entry) (r : Run) → StandsFor g es r → h.holder ≡ holder.Root r.root → (x : Told) → Leads g es x → RunHeld h r x.side
run_held g h es' r' (begun root instance) of_root x leads = first_held g h root instance x leads
run_held g h es' r' (another {es} {r} e other before) of_root x leads =
    last_step g (λ s. RunHeld h r s) es e x
    (λ z to may_it.
    let none = no_loss g (ref_owes h (holder.Root r.root)) r.root e other in
    behind_entry g h r.root of_root e (has (ref_owes h (holder.Root r.root)) r) (has (ref_owes h (holder.Root r.root)) r) z.side (omega arith) (run_held g h es r before of_root z to))
    leads
run_held g h es' r' (entered {es} {r} {next} {told} e at is before) of_root x leads =
    let fine = root_moves_so g (ref_owes h (holder.Root r.root)) told.side r next (Some e) (occurrences_homely g h (holder.Root r.root)) is in
    let of_run : h.holder ≡ holder.Root r.root = of_root ∙ ap (λ k. holder.Root k) fine.root in
    last_step g (λ s. RunHeld h next s) es e x
    (λ z to may_it.
    let held : RunHeld h r told.side = run_held g h es r before of_run told at in
    as_root h r.root next (counted e (does g e z.side).side) fine.root
    (subst (λ (y : Told). Rooted h r.root (has (ref_owes h (holder.Root r.root)) next) (counted e (does g e y.side).side).tables) (same_lead g es told z at to)
    (behind_entry g h r.root of_run e (has (ref_owes h (holder.Root r.root)) next) (has (ref_owes h (holder.Root r.root)) r) told.side fine.most held)))
    leads
run_held g h es' r' (passed {es} {r} {next} {told} at is before) of_root x leads =
    let fine = root_moves_so g (ref_owes h (holder.Root r.root)) told.side r next None (occurrences_homely g h (holder.Root r.root)) is in
    let most = fine.most in
    let held : RunHeld h r x.side = run_held g h es r before (of_root ∙ ap (λ k. holder.Root k) fine.root) x leads in
    as_root h r.root next x.side fine.root (less_held h r.root (has (ref_owes h (holder.Root r.root)) next) (has (ref_owes h (holder.Root r.root)) r) x.side (omega arith) held)
  where
    less_held : (h : Hold) (k a b : ℕ) (s : Side) → a ≤ b → Rooted h k b s.tables → Rooted h k a s.tables
    less_held h k a b s most fine = omega arith

-- ---- the law

pub root_parts : (h : Hold) (s : Side) (r : Run) → how_often hold_cmp h (holds_of (holder.Root r.root) (root_refs s r)) ≡ has (ref_owes h (holder.Root r.root)) r + owed_in h r.root s.tables.roots
unfolding state_counts
root_parts h s r =
    let is = refs_owe_is h (holder.Root r.root) (root_refs s r) in
    let whole = total_append (ref_owes h (holder.Root r.root)) (run_refs r) (state_refs (state_of r.root s.tables.roots)) in
    let run = total_append (ref_owes h (holder.Root r.root)) (refs_under r.variables) r.loose in omega arith

held_by_root : (h : Hold) (s : Side) (r : Run) → RunHeld h r s → how_often hold_cmp h (holds_of (holder.Root r.root) (root_refs s r)) ≤ how_often hold_cmp h s.tables.holdings
unfolding times
held_by_root h s r fine = let parts = root_parts h s r in omega arith

pub own_held : (g : Setting) (es : List Entry) (r : Run) (x : Told) → Leads g es x → StandsFor g es r → HoldsItsOwn x.side r
own_held g es r x leads stands p =
    held_by_root (hold (holder.Root r.root) p) x.side r (run_held g (hold (holder.Root r.root) p) es r stands refl x leads)
