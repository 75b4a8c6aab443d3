-- What a contract sees of an end of a bridge: its side, and the names that it gives.
use Rattle.std.specs.Prelude.{◌≡◌, ℕ, List, length}
use Rattle.bridge_model.specs.Settings.{Setting, prefix, release_tid}
use Rattle.bridge_model.specs.Sides.{Side}
use Rattle.bridge_model.specs.Steps.{opening}
use Rattle.plan_model.specs.Plans.{first_objects}

-- the front of the identities of its objects, and how many of these are there from the beginning and never go; the thread on which releases are sent
pub record EndSide : Type 0 where
  pub prefix : List ℕ
  pub first : ℕ
  pub release_tid : List ℕ
  pub side : Side

abbrev pub with_side : Side → EndSide → EndSide
with_side s e = record e { side = s }

abbrev pub on_side : (Side → Side) → EndSide → EndSide
on_side change e = with_side (change e.side) e

-- at the beginning
abbrev pub opening_end : Setting → EndSide
opening_end g = record { prefix = prefix g; first = length (first_objects g.plan); release_tid = release_tid g; side = opening g }

-- it is an end that is set up so
pub record IsEndOf (g : Setting) (e : EndSide) : Type 0 where
  pub prefix : e.prefix ≡ prefix g
  pub first : e.first ≡ length (first_objects g.plan)
  pub release : e.release_tid ≡ release_tid g
