-- What is done to the frames of one thread and to the tables, as contracts say it of all stacks and of the tables of an end.
use Rattle.std.specs.Prelude.{ℕ, Bool, true, false, List, ◌∷◌, Option, None, Some}
use Rattle.table_model.specs.declared.holder.Holder.{Holder}
use Rattle.table_model.specs.declared.holder.Holder.TheVariants as holder
use Rattle.uno_model.specs.Values.{own}
use Rattle.plan_model.specs.Frames.{Body, Frame, base, body, Stack}
use Rattle.bridge_model.specs.Calls.{Unwound, unwound, counts_frame}
use Rattle.bridge_model.specs.Handing.{holder_of}
use Rattle.bridge_model.specs.References.{gains}
use Rattle.bridge_model.specs.Settings.{Setting, own_oid}
use Rattle.bridge_model.specs.Sides.{Tables}
use Rattle.bridge_model.specs.Stacks.{puts_frames}
use Rattle.bridge_tables.specs.EndTables.{EndTables, with_tables}

-- the stacks and the tables behind it
abbrev pub stacks_by : List ℕ → Unwound → List Stack → List Stack
stacks_by tid u ss = puts_frames tid u.frames ss

abbrev pub tables_by : Unwound → EndTables → EndTables
tables_by u e = with_tables u.tables e

-- a method whose arguments are held already: it holds its own object under the interface that was called
abbrev pub begins : Setting → Body → List Frame → Tables → Unwound
begins g b fs t = unwound (body b ∷ fs) (counts_frame (gains (holder.Frame b.number) (own (own_oid g b.object) b.face) t))

-- the root that began a thread is its top frame
abbrev pub is_root : List Frame → Bool
is_root (base root ∷ fs) = true
is_root fs = false

-- who holds for a top frame
abbrev pub holder_above : Option Frame → Option Holder
holder_above None = None
holder_above (Some f) = holder_of f
