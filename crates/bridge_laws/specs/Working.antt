-- Where an end stands that works in the order of `answer`, though it reads its bytes in pieces of its own.
use Rattle.std.specs.Prelude.{◌≡◌, ℕ, true, false, List, [], ◌∷◌, ◌++◌, None, Some}
use Rattle.plan_model.specs.Roots.{Run}
use Rattle.bridge_model.specs.Answers.{ready_at, may_reap, drained_next}
use Rattle.bridge_model.specs.Entries as entry
use Rattle.bridge_model.specs.Feeding.{ends_part}
use Rattle.bridge_model.specs.Histories.{Told, tells}
use Rattle.bridge_model.specs.Orders.{Working, begins_work, works_once, works, root_move, most_drained}
use Rattle.bridge_model.specs.Settings.{Setting}
use Rattle.bridge_model.specs.Sides.{Side}
use Rattle.bridge_model.specs.Steps.{may, has_fed}

-- the places that the order reaches: the beginning, and what is behind one thing more that is done
pub data Reaches (g : Setting) (bytes : List ℕ) : Working → Type 0 where
  at_first : Reaches g bytes (begins_work g bytes)
  at_next : {w next : Working} → Reaches g bytes w → works_once g w ≡ Some next → Reaches g bytes next

-- nothing stands before feeding: no method is ready, no root moves, no object may go, and no byte waits
pub record AllIsDone (g : Setting) (s : Side) (runs : List Run) : Type 0 where
  pub methods : ready_at s 0 ≡ None
  pub roots : root_move g s runs ≡ None
  pub objects : may_reap g s ≡ None
  pub bytes : drained_next g most_drained s ≡ []

-- a front of the next piece is fed already: it ends no block, and more may come
pub record PartIsFed (g : Setting) (w : Working) (part : List ℕ) (t : Told) : Type 0 where
  pub done : AllIsDone g w.told.side w.runs
  pub allowed : may g w.told.side (entry.fed part) ≡ true
  pub told : tells g w.told (entry.fed part) ≡ Some t
  pub ends_nothing : ends_part (w.told.side.incoming.held ++ part) ≡ false
  pub more : has_fed t.side ≡ false

-- what was told is what the order has done; or a front of its next piece is told too
abbrev pub StandsAt : Setting → Working → List ℕ → Told → Type 0
StandsAt g w [] t = t ≡ w.told
StandsAt g w (b ∷ part) t = PartIsFed g w (b ∷ part) t

-- an end that was told this, with these roots, has done what the order does with these bytes, of which the rest is still to come
pub record IsInOrder (g : Setting) (bytes : List ℕ) (t : Told) (runs : List Run) (rest : List ℕ) : Type 0 where
  pub work : Working
  pub part : List ℕ
  pub reaches : Reaches g bytes work
  pub roots : work.runs ≡ runs
  pub left : work.rest ≡ part ++ rest
  pub stands : StandsAt g work part t

-- the order of `answer` with these bytes ends where this was told
pub record IsDone (g : Setting) (bytes : List ℕ) (t : Told) : Type 0 where
  pub steps : ℕ
  pub last : Working
  pub works : works steps g (begins_work g bytes) ≡ Some last
  pub told : last.told ≡ t
