-- Room in a journal: how many entries may come of calls that take no memory, for which there must be room beforehand.
use Rattle.std.specs.Prelude.{ℕ, ◌+◌, Bool, true, false, not, List, ◌++◌, length, Option, None, Some, if◌then◌else◌}
use Rattle.message_model.specs.Messages.{Message, reply}
use Rattle.uno_model.specs.Values.{refs}
use Rattle.table_model.specs.Bags.{how_many}
use Rattle.table_model.specs.Holdings.{Holdings}
use Rattle.table_model.specs.declared.holder.Holder.{Holder}
use Rattle.table_model.specs.declared.holder.Holder.TheVariants as holder
use Rattle.plan_model.specs.Asking.{Effect, makes, creates, returns, raises}
use Rattle.plan_model.specs.Frames.{Body}
use Rattle.bridge_model.specs.Applying.{effect_at}
use Rattle.bridge_model.specs.Entries.{Entry, fed, ended, failed, asked, called, queried, made, dropped, applied, took, reaped, disposed, full, no_memory}
use Rattle.bridge_model.specs.References.{refs_of_values, refs_of_answer}
use Rattle.bridge_model.specs.Roots.{is_idle}
use Rattle.bridge_model.specs.Settings.{Setting}
use Rattle.bridge_model.specs.Sides.{RootState, Side}
use Rattle.bridge_model.specs.Steps.{Picked, picked, does}
use Rattle.bridge_model.specs.declared.cause.Cause.{Cause}
use Rattle.bridge_model.specs.declared.cause.Cause.TheVariants as cause
use Rattle.bridge_laws.specs.Counting.{total}

-- ---- what a side needs room for

abbrev pub is_root_holder : Holder → Bool
is_root_holder (holder.Frame n) = false
is_root_holder (holder.Object n) = false
is_root_holder (holder.Root n) = true

-- the occurrences that roots hold, each of which its root may let go
unfoldable pub root_holds : Holdings → ℕ
root_holds hs = how_many (λ h. is_root_holder h.holder) hs

-- the roots that wait, or have an outcome: each takes one before it begins anything else
unfoldable pub open_roots : List RootState → ℕ
open_roots states = how_many (λ x. not (is_idle x)) states

-- a bridge that stands may end, and then run out of memory; want of memory is the last cause
abbrev pub ends_left : Option Cause → ℕ
ends_left None = 2
ends_left (Some cause.NoMemory) = 0
ends_left (Some why) = 1

-- an entry each for what is left of the end, for each outcome, for each occurrence that a root holds, and for each object
unfoldable pub needed : Side → ℕ
needed s = ends_left s.cause + (open_roots s.tables.roots + (root_holds s.tables.holdings + length s.tables.objects))

-- ---- entries that have their room already

abbrev pub is_free : Entry → Bool
is_free ended = true
is_free failed = true
is_free (dropped root oid face) = true
is_free (took root) = true
is_free (reaped object) = true
is_free disposed = true
is_free full = true
is_free no_memory = true
is_free e = false

-- ---- the need of room that other entries bring

-- a root may get what a reply refers to
abbrev pub message_brings : Message → ℕ
message_brings (reply tid face function a) = length (refs_of_answer a)
message_brings m = 0

-- a new object is one more; what leaves a method that this end called may go to its root
abbrev pub effect_brings : Body → Effect → ℕ
effect_brings b (makes behaviour face to) = 1
effect_brings b (creates name args) = 2
effect_brings b (returns x outs) = if b.from_peer then 0 else length (refs x ++ refs_of_values outs)
effect_brings b (raises k x) = if b.from_peer then 0 else length (refs x)
effect_brings b e = 0

abbrev pub statement_brings : Setting → List ℕ → Option Picked → Side → ℕ
statement_brings g tid None s = 0
statement_brings g tid (Some p) s = effect_brings p.method (effect_at g tid p.method p.below s.tables)

-- a call has an outcome, a query may bring a reference with it, and a root holds the object that it makes
unfoldable pub brought : Setting → Side → Entry → ℕ
brought g s (fed b) = total message_brings (does g (fed b) s).got
brought g s (asked root name wanted) = 1
brought g s (called root oid face function args) = 1
brought g s (queried root oid face wanted) = 2
brought g s (made root behaviour wanted) = 2
brought g s (applied tid) = statement_brings g tid (picked tid s) s
brought g s e = 0
