-- A root in progress: which statements it has, and the references that it is still to let go.
use Rattle.std.specs.Prelude.{ℕ, zero, suc, List, [], ◌∷◌, ◌++◌, Option, None, Some, slice_get}
use Rattle.uno_model.specs.Values.{Ref, Plain, refs}
use Rattle.plan_model.specs.Frames.{Variable}
use Rattle.plan_model.specs.Plans.{Plan}
use Rattle.plan_model.specs.Statements.{RootStatement, ask, ask_instance}

-- a root by its number from 1, the place of its next statement, its variables in the order in which they began, its lines so far, the name that it asks for
-- as the instance, and the references that it holds and no longer names
pub record Run : Type 0 where
  pub root : ℕ
  pub place : ℕ
  pub variables : List Variable
  pub lines : List (List ℕ)
  pub instance : List ℕ
  pub loose : List Ref

unfoldable pub opening_run : ℕ → List ℕ → Run
opening_run root instance = record { root = root; place = 0; variables = []; lines = []; instance = instance; loose = [] }

-- the statements of a root; they are the thread at its place
abbrev pub statements_in : Option (List RootStatement) → List RootStatement
statements_in None = []
statements_in (Some ss) = ss

unfoldable pub statements_of : Plan → ℕ → List RootStatement
statements_of p zero = []
statements_of p (suc n) = statements_in (slice_get p.threads n)

-- the name for which a statement asks the peer: its own, or that of the instance
unfoldable pub asked_name : (instance : List ℕ) → RootStatement → Option (List ℕ)
asked_name instance (ask to wanted name) = Some name
asked_name instance (ask_instance to wanted) = Some instance
asked_name instance s = None

-- ---- loose references

-- a value that is no longer named leaves its references, in order; null is none
abbrev pub loosened : Plain → List Ref → List Ref
loosened x rs = rs ++ refs x

-- the reference that is let go next, and those behind it
abbrev pub next_loose : List Ref → Option Ref
next_loose [] = None
next_loose (r ∷ rs) = Some r

abbrev pub less_loose : List Ref → List Ref
less_loose [] = []
less_loose (r ∷ rs) = rs
