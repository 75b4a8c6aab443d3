-- Statements: the job that is picked, and what it does.
use Rattle.std.proofs.Common.{◌≡◌, refl, sym, ap, ◌∙◌, ℕ, Bool, true, false, List, [], Option, None, Some}
use Rattle.plan_model.specs.Asking.{Effect}
use Rattle.plan_model.specs.Effects.{effect}
use Rattle.plan_model.specs.Frames.{Job, body, frames_of}
use Rattle.bridge_laws.specs.Ended.{IsQuiet}
use Rattle.bridge_model.specs.Answers.{job_picked, pick}
use Rattle.bridge_model.specs.Applying.{effect_at, job_of}
use Rattle.bridge_model.specs.Entries.{applied}
use Rattle.bridge_model.specs.Settings.{Setting}
use Rattle.bridge_model.specs.Sides.{Side, stands}
use Rattle.bridge_model.specs.Steps.{Picked, applies_effect, applies_picked, does, has_entries, is_picked, may, picked}
use Rattle.bridge_laws.specs.Room.{brought, effect_brings, statement_brings}

-- a job that is picked is that of a method at the top of its thread
pub record IsPicked (g : Setting) (tid : List ℕ) (s : Side) (j : Job) : Type 0 where
  pub top : Picked
  pub there : picked tid s ≡ Some top
  pub job : job_of g tid top.method top.below s.tables ≡ j

by_picked : (g : Setting) (tid : List ℕ) (s : Side) (j : Job) (o : Option Picked) → picked tid s ≡ o → job_picked g tid s o ≡ Some j → IsPicked g tid s j
by_picked g tid s j None there is = absurd (cc)
by_picked g tid s j (Some p) there is = record { top = p; there = there; job = cc }

pub is_picked_job : (g : Setting) (tid : List ℕ) (s : Side) (j : Job) → pick g tid s ≡ Some j → IsPicked g tid s j
unfolding pick
is_picked_job g tid s j is = by_picked g tid s j (picked tid s) refl is

module _ (g : Setting) (tid : List ℕ) (s : Side) (j : Job) (is : pick g tid s ≡ Some j) where
  pub the_picked : IsPicked g tid s j
  the_picked = is_picked_job g tid s j is

  pub picked_some : is_picked (picked tid s) ≡ true
  picked_some = ap is_picked the_picked.there

  pub picked_may : has_entries s ≡ false → may g s (applied tid) ≡ true
  unfolding may
  picked_may few = rw (few) picked_some

  -- a thread with a frame is there, so the bridge stands
  picked_none : (o : Option Picked) → picked tid s ≡ o → s.stacks ≡ [] → o ≡ Some the_picked.top → ⊥
  unfolding picked frames_of
  picked_none o here none some = let nothing : picked tid s ≡ None = rw (none) refl in let bad : ◌≡◌ {A = Option Picked} None (Some the_picked.top) = sym nothing ∙ (here ∙ some) in cc

  by_stands : (b : Bool) → stands s ≡ b → IsQuiet s → b ≡ true
  by_stands true up quiet = refl
  by_stands false up quiet = absurd (picked_none (picked tid s) refl (quiet up) the_picked.there)

  pub picked_stands : IsQuiet s → stands s ≡ true
  picked_stands quiet = by_stands (stands s) refl quiet

  -- the frame of the job is the method
  pub picked_frame : body the_picked.top.method ≡ j.frame
  unfolding job_of
  picked_frame = ap (λ y. y.frame) the_picked.job

  pub picked_effect : (x : Effect) → x ≡ effect g.plan g.registry j → x ≡ effect_at g tid the_picked.top.method the_picked.top.below s.tables
  picked_effect x here = here ∙ ap (effect g.plan g.registry) (sym the_picked.job)

  -- what is done with the effect is what the entry does
  pub does_effect : (x : Effect) → x ≡ effect g.plan g.registry j → applies_effect g tid the_picked.top x s ≡ (does g (applied tid) s).side
  unfolding does
  does_effect x here =
      ap (λ z. applies_effect g tid the_picked.top z s) (picked_effect x here)
      ∙ ap (λ o. applies_picked g tid o s) (sym the_picked.there)

  pub brings_effect : (x : Effect) → x ≡ effect g.plan g.registry j → effect_brings the_picked.top.method x ≡ brought g s (applied tid)
  unfolding brought
  brings_effect x here =
      ap (effect_brings the_picked.top.method) (picked_effect x here)
      ∙ ap (λ o. statement_brings g tid o s) (sym the_picked.there)
