-- What stands behind an entry stood before it: an end that has ended stays so.
use Rattle.std.proofs.Common.{◌≡◌, refl, ℕ, suc, Bool, true, false, if◌then◌else◌, List, Option, None, Some}
use Rattle.std.proofs.lemmas.Bool.{and_parts}
use Rattle.plan_model.specs.Asking.{Effect, lets, sets, sets_field, drops, skips, calls, queries, makes, disposes, creates, returns, raises}
use Rattle.bridge_model.specs.Applying.{effect_at}
use Rattle.bridge_model.specs.Ends.{ends_by, runs_out}
use Rattle.bridge_model.specs.Entries.{Entry, fed, ended, failed, asked, called, queried, made, dropped, applied, took, reaped, drained, disposed, full, no_memory, counts}
use Rattle.bridge_model.specs.Going.{drains, reaps}
use Rattle.bridge_model.specs.Objects.{lowest}
use Rattle.bridge_model.specs.Roots.{root_drops, root_takes}
use Rattle.bridge_model.specs.Settings.{Setting}
use Rattle.bridge_model.specs.Sides.{Object, Side, stands}
use Rattle.bridge_model.specs.Steps.{turn, may, does, Picked, picked, applies_effect, applies_picked, reaps_some}
use Rattle.bridge_model.specs.declared.cause.Cause.{Cause}

effect_stood : (g : Setting) (tid : List ℕ) (p : Picked) (e : Effect) (s : Side) → stands (applies_effect g tid p e s) ≡ true → stands s ≡ true
unfolding ends_by
effect_stood g tid p disposes s up = absurd (cc)
effect_stood g tid p (lets x) s up = up
effect_stood g tid p (sets x) s up = up
effect_stood g tid p (sets_field x) s up = up
effect_stood g tid p (drops name) s up = up
effect_stood g tid p skips s up = up
effect_stood g tid p (calls target function args to) s up = up
effect_stood g tid p (queries target wanted to) s up = up
effect_stood g tid p (makes behaviour face to) s up = up
effect_stood g tid p (creates name args) s up = up
effect_stood g tid p (returns x outs) s up = up
effect_stood g tid p (raises k x) s up = up

picked_stood : (g : Setting) (tid : List ℕ) (o : Option Picked) (s : Side) → stands (applies_picked g tid o s) ≡ true → stands s ≡ true
picked_stood g tid None s up = up
picked_stood g tid (Some p) s up = effect_stood g tid p (effect_at g tid p.method p.below s.tables) s up

reaped_stood : (g : Setting) (o : Option Object) (s : Side) → stands (reaps_some g o s) ≡ true → stands s ≡ true
unfolding reaps
reaped_stood g None s up = up
reaped_stood g (Some o) s up = up

-- an end without memory does not stand
pub no_more : (o : Option Cause) (s : Side) → stands (runs_out o s) ≡ true → ⊥
unfolding runs_out ends_by
no_more None s up = absurd (cc)
no_more (Some why) s up = absurd (cc)

-- what stands behind an entry stood before it
pub stood : (g : Setting) (e : Entry) (s : Side) → may g s e ≡ true → stands (does g e s).side ≡ true → stands s ≡ true
unfolding may does ends_by root_drops root_takes drains
stood g (fed b) s can up = (and_parts _ _ can).0
stood g ended s can up = absurd (cc)
stood g failed s can up = absurd (cc)
stood g (asked root name wanted) s can up = (and_parts _ _ can).0
stood g (called root oid face function args) s can up = (and_parts _ _ can).0
stood g (queried root oid face wanted) s can up = (and_parts _ _ can).0
stood g (made root behaviour wanted) s can up = (and_parts _ _ can).0
stood g (dropped root oid face) s can up = up
stood g (applied tid) s can up = picked_stood g tid (picked tid s) s up
stood g (took root) s can up = up
stood g (reaped object) s can up = reaped_stood g (lowest g s.tables) s up
stood g (drained b) s can up = up
stood g disposed s can up = absurd (cc)
stood g full s can up = absurd (cc)
stood g no_memory s can up = absurd (no_more s.cause s up)

-- that an entry counts changes nothing of that
pub same_standing : (g : Setting) (e : Entry) (s : Side) → stands (turn e s (does g e s)).side ≡ stands (does g e s).side
same_standing g e s = counted_standing (counts e) (does g e s).side
  where
    counted_standing : (b : Bool) (s : Side) → stands (if b then record s { entries = suc s.entries } else s) ≡ stands s
    counted_standing true s = refl
    counted_standing false s = refl
