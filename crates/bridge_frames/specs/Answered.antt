-- Which root an answer reaches, and how it is taken back that the root was answered.
use Rattle.std.specs.Prelude.{ℕ, Bool, true, false, List, [], ◌∷◌, Option, None, Some, option_map, if◌then◌else◌}
use Rattle.message_model.specs.Messages.{Answer, returned, raised}
use Rattle.table_model.specs.declared.holder.Holder.TheVariants as holder
use Rattle.plan_model.specs.Frames.{Frame, base, body, outgoing}
use Rattle.bridge_model.specs.References.{loses_all}
use Rattle.bridge_model.specs.Sides.{RootState, idle, waits_call, waits_query, answered, Tables, state_of, with_root}
use Rattle.bridge_tables.specs.EndTables.{EndTables, on_tables}
use Rattle.bridge_tables.specs.Roots.{root_of, state_refs}
use Rattle.bridge_frames.specs.declared.roots.AnsweredRoot.{AnsweredRoot}

-- a result ends at the top frame; an exception goes down to the first frame that is no method called from here
unfoldable pub root_reached : Answer → List Frame → Option ℕ
root_reached a [] = None
root_reached a (base root ∷ fs) = Some root
root_reached a (outgoing o ∷ fs) = None
root_reached (returned x outs) (body b ∷ fs) = None
root_reached (raised k x) (body b ∷ fs) = if b.from_peer then None else root_reached (raised k x) fs

-- a root, and what it does
abbrev pub root_in : List RootState → ℕ → ℕ × RootState
root_in states root = (root, state_of root states)

-- the root that is answered, and what it did before
abbrev pub root_answered : List RootState → Answer → List Frame → Option (ℕ × RootState)
root_answered states a fs = option_map (root_in states) (root_reached a fs)

-- the same as code tells it
abbrev pub answered_root : AnsweredRoot → ℕ × RootState
answered_root a = (a.root, root_of a.before)

-- what a root gets is all that an answer holds: nothing comes out of a query
unfoldable pub gets_all : RootState → Answer → Bool
gets_all (waits_query wanted) (returned x []) = true
gets_all (waits_query wanted) (returned x (out ∷ outs)) = false
gets_all (waits_query wanted) (raised k x) = true
gets_all waits_call a = true
gets_all idle a = false
gets_all (answered o) a = false

-- a root does again what it did before, and what its outcome holds is lost
abbrev pub takes_back_root : ℕ → RootState → Tables → Tables
takes_back_root root before t = loses_all (holder.Root root) (state_refs (state_of root t.roots)) (with_root root before t)

abbrev pub taken_back : Option (ℕ × RootState) → EndTables → EndTables
taken_back None e = e
taken_back (Some (root, before)) e = on_tables (takes_back_root root before) e
