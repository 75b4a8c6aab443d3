-- What a statement asks of the endpoint, as the entry that it would make.
use Rattle.std.specs.Prelude.{ℕ, ◌<◌, ◌^◌, List, map, Option, None, Some}
use Rattle.bridge_model.specs.Entries.{Entry, asked, called, queried}
use Rattle.bridge_model.specs.RootRuns.{Moved, begins, null_target, scene_of}
use Rattle.bridge_model.specs.Sides.{Side}
use Rattle.plan_model.specs.Calling.{number_in, object_of}
use Rattle.plan_model.specs.Evaluation.{value_of_word}
use Rattle.plan_model.specs.Roots.{Run}
use Rattle.plan_model.specs.Statements.{Call, RootStatement, ask, ask_instance, root_call, root_query}
use Rattle.uno_model.specs.Entities.{Entity}
use Rattle.uno_model.specs.Values.{Ref, null, own, peer}
use Rattle.uno_values.specs.Values.{plain_of}
use Rattle.bridge_core.specs.declared.asking.Asked.{Asked}
use Rattle.bridge_core.specs.declared.asking.Asked.TheVariants as what

abbrev pub entry_of : ℕ → Asked → Entry
entry_of root (what.Name name wanted) = asked root name wanted
entry_of root (what.Call oid face function args) = called root oid face function (map plain_of args.items)
entry_of root (what.Query oid face wanted) = queried root oid face wanted

-- what a statement that asks this does; where it asks nothing its target is null
abbrev pub asks : Side → Run → Option Asked → Moved
asks s r None = null_target r
asks s r (Some a) = begins s r (entry_of r.root a)

-- the statement asks something
abbrev pub IsAsking : RootStatement → Type 0
IsAsking (ask to wanted name) = Unit
IsAsking (ask_instance to wanted) = Unit
IsAsking (root_call c) = Unit
IsAsking (root_query q) = Unit
IsAsking s = ⊥

-- the number of the function that is called there has two bytes
abbrev pub IsSmallNumber : List Entity → Call → Ref → Type 0
IsSmallNumber reg c null = Unit
IsSmallNumber reg c (own oid face) = number_in reg face c.callee < 2 ^ 16
IsSmallNumber reg c (peer oid face) = number_in reg face c.callee < 2 ^ 16

abbrev pub HasSmallNumber : List Entity → Run → RootStatement → Type 0
HasSmallNumber reg r (root_call c) = IsSmallNumber reg c (object_of (value_of_word (scene_of r) c.target))
HasSmallNumber reg r s = Unit
