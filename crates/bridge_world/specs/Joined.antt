-- What a contract sees of two ends that are joined, and each of the two in it.
use Rattle.std.specs.Prelude.{◌≡◌, ℕ, List, ◌++◌, length, drop, map, Some}
use Rattle.std.specs.Option.{unwrap_or}
use Rattle.bridge_core.specs.declared.side.Side.{Side}
use Rattle.bridge_core.specs.declared.side.Side.TheVariants as code
use Rattle.bridge_endpoint.specs.Journals.{Endpoint}
use Rattle.bridge_endpoint.specs.declared.answers.Fed.{Fed}
use Rattle.bridge_endpoint.specs.declared.answers.Fed.TheVariants as feeding
use Rattle.bridge_model.specs.Entries.{Entry}
use Rattle.bridge_setting.specs.Settings.{setting_of}
use Rattle.bridge_setting.specs.declared.setting.Setting.{Setting as Configured}
use Rattle.world_laws.specs.Merging.{events_at, put_in, way_to}
use Rattle.world_model.specs.Worlds.{Settings, Share, World, opening_world, Event, happen_all, entries_of}
use Rattle.world_model.specs.declared.side.Side as world
use Rattle.world_model.specs.declared.side.Side.TheVariants.{A, B}

-- what each end is set up with, as code has it, and the entries of both, in the order in which they were made
pub record Joined : Type 0 where
  pub a : Configured
  pub b : Configured
  pub events : List Event

abbrev pub share_of : Configured → Share
share_of c = record { tag = (setting_of c).tag; plan = (setting_of c).plan }

-- they have one registry
abbrev pub settings_of : Joined → Settings
settings_of j = record { registry = (setting_of j.a).registry; a = share_of j.a; b = share_of j.b }

-- two endpoints as what is seen of them: the marks of each are the places of its entries among those of both
abbrev pub joined : (a b : Endpoint) → Joined
joined a b = record { a = a.configured; b = b.configured; events = put_in b.stamps b.entries (events_at A a.entries) }

-- ---- one of the two

abbrev pub side_of : Side → world.Side
side_of code.A = A
side_of code.B = B

-- an end of two is seen without its marks
abbrev pub unmarked : Configured → List Entry → Endpoint
unmarked c es = record { configured = c; entries = es; stamps = map (λ _. 0) es; stamp = 0 }

abbrev pub end_at : Joined → Side → Endpoint
end_at j code.A = unmarked j.a (entries_of A j.events)
end_at j code.B = unmarked j.b (entries_of B j.events)

-- ---- what the history leads to

-- the ends behind all entries
unfoldable pub world_of : Joined → World
world_of j = unwrap_or (happen_all (settings_of j) (Some (opening_world (settings_of j))) j.events) (opening_world (settings_of j))

-- the bytes on their way to an end: what the other drained without what it was fed
abbrev pub on_the_way : Joined → (to : Side) → List ℕ
on_the_way j to = way_to (side_of to) j.events

-- how many bytes are taken of a piece with which no bridge breaks
abbrev pub taken_with : Fed → ℕ
taken_with (feeding.Taken n) = n
taken_with fed = 0

-- entries that an end made stand behind all others
abbrev pub made_at : Side → (old new : Endpoint) → List Event
made_at s e f = events_at (side_of s) (drop (length e.entries) f.entries)

pub record Grows (s : Side) (j k : Joined) : Type 0 where
  pub a : k.a ≡ j.a
  pub b : k.b ≡ j.b
  pub events : k.events ≡ j.events ++ made_at s (end_at j s) (end_at k s)
