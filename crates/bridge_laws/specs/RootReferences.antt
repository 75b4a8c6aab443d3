-- What a root has: the references in its variables, those that it is still to let go, and those in an outcome that it did not take.
use Rattle.std.specs.Prelude.{◌≡◌, ◌≤◌, true, List, [], ◌++◌}
use Rattle.std.specs.List.{list_all}
use Rattle.uno_model.specs.Values.{Ref}
use Rattle.table_model.specs.Bags.{how_often}
use Rattle.table_model.specs.Holdings.{hold, hold_cmp}
use Rattle.table_model.specs.Pair.{Pair}
use Rattle.table_model.specs.declared.holder.Holder.TheVariants as holder
use Rattle.plan_model.specs.Holdings.{refs_under}
use Rattle.plan_model.specs.Roots.{Run}
use Rattle.bridge_model.specs.References.{refs_of_answer}
use Rattle.bridge_model.specs.Settings.{Setting, is_told}
use Rattle.bridge_model.specs.Sides.{Outcome, answer, RootState, idle, waits_call, waits_query, answered, Side, state_of}
use Rattle.bridge_model.specs.Sides as side
use Rattle.bridge_laws.specs.Covering.{holds_of}

-- the references in an outcome; the end of the bridge and want of memory bring none
abbrev pub outcome_refs : Outcome → List Ref
outcome_refs (answer a) = refs_of_answer a
outcome_refs (side.disposed why) = []
outcome_refs side.no_memory = []

-- in what a root did not take
abbrev pub state_refs : RootState → List Ref
state_refs idle = []
state_refs waits_call = []
state_refs (waits_query wanted) = []
state_refs (answered o) = outcome_refs o

-- those that its run names, and those that it names no more and is still to let go
abbrev pub run_refs : Run → List Ref
run_refs r = refs_under r.variables ++ r.loose

-- all that a root has
abbrev pub root_refs : Side → Run → List Ref
root_refs s r = run_refs r ++ state_refs (state_of r.root s.tables.roots)

-- the root holds each pair at least as often as it has it
abbrev pub HoldsItsOwn : Side → Run → Type 0
HoldsItsOwn s r =
    (p : Pair) → how_often hold_cmp (hold (holder.Root r.root) p) (holds_of (holder.Root r.root) (root_refs s r)) ≤ how_often hold_cmp (hold (holder.Root r.root) p) s.tables.holdings

-- each of them is told as own or foreign by its identity
abbrev pub TellsItsOwn : Setting → Side → Run → Type 0
TellsItsOwn g s r = list_all (is_told g) (root_refs s r) ≡ true
