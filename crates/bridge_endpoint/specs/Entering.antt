-- Which entry a call adds, by what it answers.
use Rattle.std.specs.Prelude.{ℕ, suc, ◌+◌, ◌-◌, ◌<◌, ◌^◌, List, [], ◌∷◌, length, Result, Ok, Err, if◌then◌else◌}
use Rattle.bridge_journal.specs.Logs.{Log}
use Rattle.bridge_model.specs.Sides.{Side}
use Rattle.bridge_model.specs.Entries.{Entry, ended, failed, fed, applied, drained, full, no_memory}
use Rattle.bridge_model.specs.Steps.{is_no_memory}
use Rattle.bridge_model.specs.declared.cause.Cause.{Cause}
use Rattle.bridge_model.specs.declared.cause.Cause.TheVariants as cause
use Rattle.bridge_model.specs.declared.input_end.InputEnd.{InputEnd}
use Rattle.bridge_model.specs.declared.input_end.InputEnd.TheVariants as how
use Rattle.bridge_endpoint.specs.declared.answers.Begun.{Begun}
use Rattle.bridge_endpoint.specs.declared.answers.Begun.TheVariants as begun
use Rattle.bridge_endpoint.specs.declared.answers.Fed.{Fed}
use Rattle.bridge_endpoint.specs.declared.answers.Fed.TheVariants as feeding
use Rattle.bridge_endpoint.specs.declared.answers.ApplyError.{ApplyError}
use Rattle.bridge_endpoint.specs.declared.answers.ApplyError.TheVariants as applying
use Rattle.bridge_endpoint.specs.declared.answers.Made.{Made}
use Rattle.bridge_endpoint.specs.declared.answers.Made.TheVariants as making
use Rattle.bridge_endpoint.specs.Journals.{Endpoint, side_at, with_entry}

-- an entry more counts
abbrev pub counts_one : Side → Side
counts_one s = record s { entries = suc s.entries }

-- other room
abbrev pub with_room : ℕ → Log → Log
with_room n l = record l { room = n }

-- the entries and the room for more can be counted
abbrev pub IsWithin : Log → Type 0
IsWithin l = length l.entries + l.room < 2 ^ 64 - 1

abbrev pub how_ended : InputEnd → Entry
how_ended how.Ended = ended
how_ended how.Failed = failed

abbrev pub how_cause : InputEnd → Cause
how_cause how.Ended = cause.Ended
how_cause how.Failed = cause.Failed

-- want of memory, unless the bridge has ended for it
abbrev pub out_of_memory : Endpoint → Endpoint
out_of_memory e = if is_no_memory (side_at e).cause then e else with_entry no_memory e

-- a root that begins what this entry says
abbrev pub begun_by : Begun → Entry → Endpoint → Endpoint
begun_by begun.Started x e = with_entry x e
begun_by begun.Answered x e = with_entry x e
begun_by begun.NotHeld x e = e
begun_by begun.Full x e = with_entry full e
begun_by begun.Gone x e = e
begun_by begun.NoMemory x e = out_of_memory e

-- bytes that were taken are fed; where none are, nothing is entered
abbrev pub taking : List ℕ → Endpoint → Endpoint
taking [] e = e
taking (b ∷ bytes) e = with_entry (fed (b ∷ bytes)) e

abbrev pub fed_by : Fed → List ℕ → Endpoint → Endpoint
fed_by (feeding.Taken n) bytes e = taking bytes e
fed_by (feeding.Broken why place) bytes e = taking bytes e
fed_by feeding.Full bytes e = with_entry full e
fed_by feeding.Gone bytes e = e
fed_by feeding.NoMemory bytes e = out_of_memory e

-- a root that makes an object
abbrev pub made_by : Made → Entry → Endpoint → Endpoint
made_by (making.Made oid) x e = with_entry x e
made_by making.Full x e = with_entry full e
made_by making.Gone x e = e
made_by making.NoMemory x e = out_of_memory e

-- a statement of a thread
abbrev pub applied_by : Result Unit ApplyError → List ℕ → Endpoint → Endpoint
applied_by (Ok u) tid e = with_entry (applied tid) e
applied_by (Err (applying.Stale now)) tid e = e
applied_by (Err applying.Full) tid e = with_entry full e
applied_by (Err applying.NoMemory) tid e = out_of_memory e

-- bytes that go out
abbrev pub draining : List ℕ → Endpoint → Endpoint
draining [] e = e
draining (b ∷ bytes) e = with_entry (drained (b ∷ bytes)) e
