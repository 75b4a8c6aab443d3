-- The call that a root is at: the entry with which the statement of its run began it, and that the root's outcome is that of this call.
use Rattle.std.specs.Prelude.{◌≡◌, ℕ, Bool, true, false, not, ◌==◌, List, ◌∷◌, ◌++◌, Some}
use Rattle.std.specs.List.{list_all}
use Rattle.plan_model.specs.Roots.{Run}
use Rattle.plan_model.specs.Statements.{RootStatement}
use Rattle.bridge_model.specs.Entries.{Entry, asked, called, queried, made}
use Rattle.bridge_model.specs.Histories.{Told, Leads}
use Rattle.bridge_model.specs.RootRuns.{moved, begins_statement, statement_at, is_of_root}
use Rattle.bridge_model.specs.Settings.{Setting}
use Rattle.bridge_model.specs.Sides.{Outcome, answer, no_memory, stands}
use Rattle.bridge_model.specs.Sides as side
use Rattle.bridge_model.specs.declared.cause.Cause.TheVariants as cause
use Rattle.bridge_laws.specs.Ending.{HasEnd}
use Rattle.bridge_laws.specs.Givings.{IsGiven}

-- a root asks, calls or queries with this entry
abbrev pub begins_call : ℕ → Entry → Bool
begins_call n (asked root name wanted) = root == n
begins_call n (called root oid face function args) = root == n
begins_call n (queried root oid face wanted) = root == n
begins_call n e = false

-- so does some root, or it makes an object
abbrev pub begins_some : Entry → Bool
begins_some (asked root name wanted) = true
begins_some (called root oid face function args) = true
begins_some (queried root oid face wanted) = true
begins_some (made root behaviour wanted) = true
begins_some e = false

-- a run is at a statement that began a call: the entry is the one that the statement makes with the variables of the run, the bridge stood before it, and behind it the root has no
-- entry of its own
pub record IsAtCall (g : Setting) (es : List Entry) (r : Run) (s : RootStatement) : Type 0 where
  pub at : statement_at g r ≡ Some s
  pub before : List Entry
  pub entry : Entry
  pub later : List Entry
  pub journal : es ≡ before ++ entry ∷ later
  pub told : Told
  pub leads : Leads g before told
  pub up : stands told.side ≡ true
  pub begun : begins_statement g told.side r s ≡ moved r (Some entry)
  pub calls : begins_call r.root entry ≡ true
  pub last : list_all (λ e. not (is_of_root r.root e)) later ≡ true

-- an outcome is that of a call which began with this entry, behind these: that entry gave the answer, or one behind it; or the bridge ended behind it, for the cause that the
-- outcome says, or for want of memory
abbrev pub IsOutcomeOf : Setting → List Entry → (root : ℕ) → (before : List Entry) → Entry → Outcome → Type 0
IsOutcomeOf g es root before entry (answer a) = (given : IsGiven g es root a) × (between : List Entry) × (given.before ≡ before ++ between)
IsOutcomeOf g es root before entry (side.disposed why) = (end : HasEnd g es why) × (between : List Entry) × (end.before ≡ before ++ entry ∷ between)
IsOutcomeOf g es root before entry no_memory = (end : HasEnd g es cause.NoMemory) × (between : List Entry) × (end.before ≡ before ++ entry ∷ between)

-- an outcome that a root has is that of the call of the statement at which its run is
pub record IsOfItsCall (g : Setting) (es : List Entry) (r : Run) (o : Outcome) : Type 0 where
  pub statement : RootStatement
  pub call : IsAtCall g es r statement
  pub outcome : IsOutcomeOf g es r.root call.before call.entry o
