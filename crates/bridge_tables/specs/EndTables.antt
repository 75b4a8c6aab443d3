-- What a contract sees of the tables of an end: the tables themselves, the names that this end gives, and whether the bridge stands.
use Rattle.std.specs.Prelude.{◌≡◌, ℕ, Bool, true, false, List, [], length, if◌then◌else◌}
use Rattle.std.specs.List.{filter}
use Rattle.table_model.specs.Holdings.{outlasts}
use Rattle.plan_model.specs.Plans.{first_objects}
use Rattle.bridge_model.specs.Ends.{tables_at_end}
use Rattle.bridge_model.specs.Settings.{Setting, prefix, release_tid}
use Rattle.bridge_model.specs.Sides.{Tables}
use Rattle.bridge_model.specs.Steps.{no_objects}
use Rattle.bridge_model.specs.declared.cause.Cause.{Cause}
use Rattle.bridge_model.specs.declared.cause.Cause.TheVariants as cause

-- the front of the identities of its objects, and how many of these are there from the beginning and never go; the thread on which releases are sent
pub record EndTables : Type 0 where
  pub prefix : List ℕ
  pub first : ℕ
  pub release_tid : List ℕ
  pub stands : Bool
  pub tables : Tables

-- at the beginning there are no objects
abbrev pub opening_tables : Setting → EndTables
opening_tables g =
    record {
      prefix = prefix g;
      first = length (first_objects g.plan);
      release_tid = release_tid g;
      stands = true;
      tables = no_objects g.plan;
    }

abbrev pub with_tables : Tables → EndTables → EndTables
with_tables t e = record e { tables = t }

abbrev pub on_tables : (Tables → Tables) → EndTables → EndTables
on_tables change e = with_tables (change e.tables) e

-- the bridge has ended
abbrev pub ended : Cause → EndTables → EndTables
ended why e = record e { stands = false; tables = tables_at_end why e.tables }

-- the bridge ends for want of memory, where it stands
abbrev pub out_of_memory : EndTables → EndTables
out_of_memory e = if e.stands then ended cause.NoMemory e else e

-- what was said is forgotten
abbrev pub forgotten : Tables → Tables
forgotten t = record t { unsaid = [] }

abbrev pub with_frames_made : ℕ → Tables → Tables
with_frames_made n t = record t { frames_made = n }

-- they are those of an end that is set up so
pub record IsOf (g : Setting) (e : EndTables) : Type 0 where
  pub prefix : e.prefix ≡ prefix g
  pub first : e.first ≡ length (first_objects g.plan)
  pub release : e.release_tid ≡ release_tid g

-- ---- want of memory

-- what is there still when the bridge has ended for it: what frames hold goes, and so does what was said, and what of it is counted
abbrev pub lasts : Tables → Tables
lasts t = record t { holdings = filter outlasts t.holdings; stubs = []; unsaid = [] }

abbrev pub lasting : EndTables → EndTables
lasting e = on_tables lasts e

-- the same but for what was said, and what of it is counted
abbrev pub quiet : EndTables → EndTables
quiet e = on_tables (λ t. record t { stubs = []; unsaid = [] }) e
