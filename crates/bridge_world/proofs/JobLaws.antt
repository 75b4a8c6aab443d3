-- A thread that is ready has a job, which is that of its thread: at whatever place it stands among those that are ready.
use Rattle.std.proofs.Common.{◌≡◌, ◌≢◌, refl, sym, ap, ◌∙◌, ℕ, zero, suc, Bool, true, false, List, [], ◌∷◌, Option, None, Some, if◌then◌else◌}
use Rattle.std.proofs.lemmas.Bool.{false≢true, true≢false}
use Rattle.std.proofs.lemmas.Slice.Eq.{bytes_eq-Decides}
use Rattle.std.specs.Str.{bytes_eq}
use Rattle.bridge_endpoint.specs.Journals.{Endpoint, setting_at, side_at, told_at}
use Rattle.bridge_laws.proofs.PlanConstantLaws.{plan_refers_to_nothing}
use Rattle.bridge_laws.specs.Grounded.{AreApart}
use Rattle.bridge_model.specs.Answers.{job_picked, pick, ready_at}
use Rattle.bridge_model.specs.Applying.{job_of}
use Rattle.bridge_model.specs.Histories.{Leads}
use Rattle.bridge_model.specs.Settings.{Setting}
use Rattle.bridge_model.specs.Sides.{Side}
use Rattle.bridge_model.specs.Steps.{Picked, is_picked, picked, picked_in}
use Rattle.bridge_laws.proofs.DoingLaws.{all_apart, picked_one}
use Rattle.plan_model.specs.Frames.{Job, Stack, first_frame, frames_of, is_body, nth_tid, ready}
use Rattle.plan_model.specs.Keeps.{KeepsTheRules}

-- ---- the stack of a thread that is ready

same_name : (a b : List ℕ) → ◌≡◌ {A = Option (List ℕ)} (Some a) (Some b) → a ≡ b
same_name a b is = cc

-- the stack of a thread that is ready at a place has a method at its top
abbrev IsTop : List Stack → Type 0
IsTop ss = (n : ℕ) (tid : List ℕ) → nth_tid (ready ss) n ≡ Some tid → is_picked (picked_in (frames_of tid ss)) ≡ true

behind : (z : Stack) (ss : List Stack) (tid : List ℕ) → frames_of z.tid ss ≡ [] → is_picked (picked_in (frames_of tid ss)) ≡ true → (b : Bool) → bytes_eq tid z.tid ≡ b
    → is_picked (picked_in (if b then z.frames else frames_of tid ss)) ≡ true
behind z ss tid apart top true same =
    let none : frames_of tid ss ≡ [] = ap (λ t. frames_of t ss) ((bytes_eq-Decides tid z.tid).0 same) ∙ apart in
    absurd (true≢false (sym top ∙ ap (λ fs. is_picked (picked_in fs)) none))
behind z ss tid apart top false same = top

first : (z : Stack) (ss : List Stack) (tid : List ℕ) → is_body (first_frame z.frames) ≡ true → z.tid ≡ tid → is_picked (picked_in (if bytes_eq tid z.tid then z.frames else frames_of tid ss)) ≡ true
first z ss tid top same = ap (λ b. is_picked (picked_in (if b then z.frames else frames_of tid ss))) ((bytes_eq-Decides tid z.tid).1 (sym same)) ∙ picked_one z.frames top

top_by : (z : Stack) (ss : List Stack) → frames_of z.tid ss ≡ [] → IsTop ss → (n : ℕ) (tid : List ℕ) (b : Bool) → is_body (first_frame z.frames) ≡ b → nth_tid (if b then z ∷ ready ss else ready ss) n ≡ Some tid
    → is_picked (picked_in (if bytes_eq tid z.tid then z.frames else frames_of tid ss)) ≡ true
top_by z ss apart more zero tid true top is = first z ss tid top (same_name z.tid tid is)
top_by z ss apart more (suc n) tid true top is = behind z ss tid apart (more n tid is) (bytes_eq tid z.tid) refl
top_by z ss apart more n tid false top is = behind z ss tid apart (more n tid is) (bytes_eq tid z.tid) refl

ready_top : (ss : List Stack) → AreApart ss → IsTop ss
unfolding AreApart frames_of
ready_top [] apart n tid is = absurd (cc)
ready_top (z ∷ ss) apart n tid is = top_by z ss apart.0 (ready_top ss apart.1) n tid (is_body (first_frame z.frames)) refl is

-- ---- its job

picked_tid : (g : Setting) (tid : List ℕ) (s : Side) (o : Option Picked) (j : Job) → job_picked g tid s o ≡ Some j → j.tid ≡ tid
unfolding job_of
picked_tid g tid s None j is = absurd (cc)
picked_tid g tid s (Some p) j is = let same : job_of g tid p.method p.below s.tables ≡ j = cc in ap (λ z. z.tid) (sym same)

pick_tid : (g : Setting) (tid : List ℕ) (s : Side) (j : Job) → pick g tid s ≡ Some j → j.tid ≡ tid
unfolding pick
pick_tid g tid s j is = picked_tid g tid s (picked tid s) j is

-- the thread that is ready is that of the job
pub asked_ready : (g : Setting) (s : Side) (n : ℕ) (tid : List ℕ) (j done : Job) → Some tid ≡ ready_at s n → Some j ≡ pick g tid s → done ≡ j → ready_at s n ≡ Some done.tid
asked_ready g s n tid j done there job same = sym there ∙ ap Some (sym (pick_tid g tid s j (sym job)) ∙ ap (λ z. z.tid) (sym same))

-- and it is still the one that would be picked
pub asked_current : (g : Setting) (s : Side) (tid : List ℕ) (j done : Job) → Some j ≡ pick g tid s → done ≡ j → pick g done.tid s ≡ Some done
asked_current g s tid j done job same =
    let name : done.tid ≡ tid = ap (λ z. z.tid) same ∙ pick_tid g tid s j (sym job) in
    ap (λ t. pick g t s) name ∙ (sym job ∙ ap Some (sym same))

no_job : (g : Setting) (tid : List ℕ) (s : Side) (o : Option Picked) → is_picked o ≡ true → None ≡ job_picked g tid s o → ⊥
no_job g tid s None some none = absurd (false≢true some)
no_job g tid s (Some p) some none = let bad : ⊥ = cc in bad

-- a thread that is ready has one
pub has_job : (e : Endpoint) → Leads (setting_at e) e.entries (told_at e) → KeepsTheRules (setting_at e).registry (setting_at e).plan → (n : ℕ) (tid : List ℕ) → Some tid ≡ ready_at (side_at e) n
    → None ≡ pick (setting_at e) tid (side_at e) → ⊥
unfolding side_at pick picked
has_job e leads rules n tid is none =
    let s = (told_at e).side in
    let apart = all_apart (setting_at e) e.entries (told_at e) (plan_refers_to_nothing (setting_at e).registry (setting_at e).plan rules) leads in
    no_job (setting_at e) tid s (picked_in (frames_of tid s.stacks)) (ready_top s.stacks apart n tid (sym is)) none
