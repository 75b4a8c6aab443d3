-- The fields of an object under their names, and the job of the method at the top of a thread.
use Rattle.std.specs.Prelude.{IfOk}
use Rattle.std.proofs.Common.{◌≡◌, ◌↔◌, refl, sym, ap, ◌∙◌, ℕ, Bool, true, List, [], ◌∷◌, Option, None, Some, Result, Ok, Err}
use Rattle.plan_model.specs.Frames.{Body, Frame, body, frames_of, Job, top, first_frame, Variable}
use Rattle.uno_model.specs.Entities.{Field}
use Rattle.uno_model.specs.Values.{Plain}
use Rattle.bridge_model.specs.Answers.{pick, job_picked}
use Rattle.bridge_model.specs.Applying.{behaviour_number, job_of}
use Rattle.bridge_model.specs.Objects.{as_variables, fields_of, variables_of}
use Rattle.bridge_model.specs.Settings.{Setting}
use Rattle.bridge_model.specs.Sides.{Object, Side}
use Rattle.bridge_model.specs.Steps.{picked, picked_in}
use Rattle.bridge_objects.specs.Kept as kept

-- ---- fields

-- they are those of its behaviour
pub fields_at : (g : Setting) (o : Option Object) (b : ℕ) (fs : List Field) (xs : List Plain) → kept.fields_of o ≡ Some xs → b ≡ behaviour_number o → fs ≡ fields_of g b → as_variables fs xs ≡ variables_of g o
fields_at g None b fs xs given same told = absurd (cc)
fields_at g (Some o) b fs xs given same told =
    let values : o.fields ≡ xs = cc in
    ap (λ hs. as_variables hs xs) (told ∙ ap (fields_of g) same) ∙ ap (as_variables (fields_of g o.behaviour)) (sym values)

-- what is made is the same by another name
pub made_same : {V E : Type 0} (r : Result V E) (f : V → List Variable) (xs ys : List Variable) → xs ≡ ys → IfOk r (λ v. f v ≡ xs) → IfOk r (λ v. f v ≡ ys)
made_same (Ok v) f xs ys same is = is ∙ same
made_same (Err e) f xs ys same is = is

pub told_same : (P : Type 0) (xs ys zs : List Variable) → xs ≡ ys → (P ↔ xs ≡ zs) → (P ↔ ys ≡ zs)
told_same P xs ys zs same told = (λ p. sym same ∙ told.0 p, λ is. told.1 (same ∙ is))

-- ---- jobs

at_top : (fs : List Frame) (b : Body) → first_frame fs ≡ Some (body b) → (gs : List Frame) × (fs ≡ body b ∷ gs)
at_top [] b is = absurd (cc)
at_top (f ∷ fs) b is = let same : f ≡ body b = cc in (fs, ap (λ h. h ∷ fs) same)

module _ (g : Setting) (tid : List ℕ) (s : Side) (b : Body) (here : top tid s.stacks ≡ Some (body b)) where
  found : (gs : List Frame) × (frames_of tid s.stacks ≡ body b ∷ gs)
  found = at_top (frames_of tid s.stacks) b here

  picked_job : pick g tid s ≡ Some (job_of g tid b found.0 s.tables)
  unfolding pick picked
  picked_job = ap (λ fs. job_picked g tid s (picked_in fs)) found.1

  -- a job is the one that would be picked where it is that of the method at the top
  pub current_told : (x : Bool) (j : Job)
      → ((c : Body) → (fs : List Frame) → frames_of tid s.stacks ≡ body c ∷ fs → b ≡ c → x ≡ true ↔ job_of g tid c fs s.tables ≡ j)
      → x ≡ true ↔ pick g tid s ≡ Some j
  current_told x j told =
      let same = told b found.0 found.1 refl in (
        λ is. picked_job ∙ ap Some (same.0 is),
        λ is. let one : ◌≡◌ {A = Option Job} (Some (job_of g tid b found.0 s.tables)) (Some j) = sym picked_job ∙ is in let jobs : job_of g tid b found.0 s.tables ≡ j = cc in same.1 jobs,
      )
