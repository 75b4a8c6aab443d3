-- The job that is picked is that of its thread.
use Rattle.std.proofs.Common.{◌≡◌, refl, sym, ap, ◌∙◌, ℕ, true, false, List, Option, None, Some}
use Rattle.std.proofs.lemmas.Bool.{false≢true}
use Rattle.plan_model.specs.Frames.{Job, frames_of}
use Rattle.bridge_endpoint.specs.Journals.{Endpoint, setting_at, side_at, told_at}
use Rattle.bridge_laws.proofs.PlanConstantLaws.{plan_refers_to_nothing}
use Rattle.bridge_model.specs.Answers.{job_picked, pick, ready_at}
use Rattle.bridge_model.specs.Applying.{job_of}
use Rattle.bridge_model.specs.Entries.{Entry, full}
use Rattle.bridge_model.specs.Orders.{or_full}
use Rattle.bridge_model.specs.Settings.{Setting}
use Rattle.bridge_model.specs.Sides.{Side}
use Rattle.bridge_model.specs.Steps.{Picked, has_entries, is_picked, picked, picked_in}
use Rattle.bridge_core.specs.Standing.{IsHistory}
use Rattle.bridge_laws.proofs.DoingLaws.{all_apart, first_picked}

picked_tid : (g : Setting) (tid : List ℕ) (s : Side) (o : Option Picked) (j : Job) → job_picked g tid s o ≡ Some j → j.tid ≡ tid
unfolding job_of
picked_tid g tid s None j is = absurd (cc)
picked_tid g tid s (Some p) j is = let same : job_of g tid p.method p.below s.tables ≡ j = cc in ap (λ z. z.tid) (sym same)

pick_tid : (g : Setting) (tid : List ℕ) (s : Side) (j : Job) → pick g tid s ≡ Some j → j.tid ≡ tid
unfolding pick
pick_tid g tid s j is = picked_tid g tid s (picked tid s) j is

-- the thread that is ready is that of the job
pub asked_ready : (g : Setting) (s : Side) (tid : List ℕ) (j done : Job) → Some tid ≡ ready_at s 0 → Some j ≡ pick g tid s → done ≡ j → ready_at s 0 ≡ Some done.tid
asked_ready g s tid j done ready job same = sym ready ∙ ap Some (sym (pick_tid g tid s j (sym job)) ∙ ap (λ z. z.tid) (sym same))

-- and it is still the one that would be picked
pub asked_current : (g : Setting) (s : Side) (tid : List ℕ) (j done : Job) → Some j ≡ pick g tid s → done ≡ j → pick g done.tid s ≡ Some done
asked_current g s tid j done job same =
    let name : done.tid ≡ tid = ap (λ z. z.tid) same ∙ pick_tid g tid s j (sym job) in
    ap (λ t. pick g t s) name ∙ (sym job ∙ ap Some (sym same))

-- a thread that is ready has a job
no_job : (g : Setting) (tid : List ℕ) (s : Side) (o : Option Picked) → is_picked o ≡ true → None ≡ job_picked g tid s o → ⊥
no_job g tid s None some none = absurd (false≢true some)
no_job g tid s (Some p) some none = let bad : ⊥ = cc in bad

pub has_job : (e : Endpoint) → IsHistory e → (tid : List ℕ) → Some tid ≡ ready_at (side_at e) 0 → None ≡ pick (setting_at e) tid (side_at e) → ⊥
unfolding side_at pick picked
has_job e known tid is none =
    let s = (told_at e).side in
    let apart = all_apart (setting_at e) e.entries (told_at e) (plan_refers_to_nothing (setting_at e).registry (setting_at e).plan known.set_up.rules) known.leads in
    no_job (setting_at e) tid s (picked_in (frames_of tid s.stacks)) (first_picked tid s.stacks apart (sym is)) none

-- below the limit of entries, and at it
pub below_limit : (s : Side) (x : Entry) → has_entries s ≡ false → x ≡ or_full s x
below_limit s x few = rw few (refl)

pub at_limit : (s : Side) (x : Entry) → has_entries s ≡ true → full ≡ or_full s x
at_limit s x many = rw many (refl)
