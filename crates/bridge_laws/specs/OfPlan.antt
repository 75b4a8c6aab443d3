-- Journals whose roots are roots of the plan.
use Rattle.std.specs.Prelude.{ℕ, ◌≤◌, ◌<◌, ◌^◌, List, length}
use Rattle.std.specs.List.{AllByRecursion}
use Rattle.bridge_model.specs.Entries.{Entry, asked, called, queried}
use Rattle.bridge_model.specs.Settings.{Setting}

-- roots are numbered from 1
abbrev pub IsRoot : Setting → ℕ → Type 0
IsRoot g root = (1 ≤ root) × (root ≤ length g.plan.threads)

-- a root that begins a call is one of the plan
abbrev pub IsOfPlan : Setting → Entry → Type 0
IsOfPlan g (asked root name wanted) = IsRoot g root
IsOfPlan g (called root oid face function args) = IsRoot g root
IsOfPlan g (queried root oid face wanted) = IsRoot g root
IsOfPlan g e = Unit

-- so is each of a journal; and roots are so few that their names tell them apart
pub record AreOfPlan (g : Setting) (es : List Entry) : Type 0 where
  pub roots : AllByRecursion (IsOfPlan g) es
  pub few : length g.plan.threads < 2 ^ 64
