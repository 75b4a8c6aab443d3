-- Why what a root begins is refused at once.
use Rattle.std.specs.Prelude.{◌≡◌, true, false}
use Rattle.bridge_model.specs.Entries.{full}
use Rattle.bridge_model.specs.Sides.{stands}
use Rattle.bridge_model.specs.Steps.{has_entries, is_no_memory}
use Rattle.bridge_endpoint.specs.declared.answers.Begun.{Begun}
use Rattle.bridge_endpoint.specs.declared.answers.Begun.TheVariants as begun
use Rattle.bridge_endpoint.specs.declared.answers.Made.{Made}
use Rattle.bridge_endpoint.specs.declared.answers.Made.TheVariants as making
use Rattle.bridge_endpoint.specs.declared.refusing.Refused.{Refused}
use Rattle.bridge_endpoint.specs.declared.refusing.Refused.TheVariants as refused
use Rattle.bridge_endpoint.specs.Journals.{Endpoint, side_at, with_entry}

abbrev pub refused_begun : Refused → Begun
refused_begun refused.Full = begun.Full
refused_begun refused.Gone = begun.Gone
refused_begun refused.NoMemory = begun.NoMemory

abbrev pub refused_made : Refused → Made
refused_made refused.Full = making.Full
refused_made refused.Gone = making.Gone
refused_made refused.NoMemory = making.NoMemory

-- the bridge stands and has its fill of entries, and ends for that; or it had ended, and nothing is entered
abbrev pub IsRefused : Refused → (before after : Endpoint) → Type 0
IsRefused refused.Full e f = (stands (side_at e) ≡ true) × (has_entries (side_at e) ≡ true) × (f ≡ with_entry full e)
IsRefused refused.Gone e f = (stands (side_at e) ≡ false) × (is_no_memory (side_at e).cause ≡ false) × (f ≡ e)
IsRefused refused.NoMemory e f = (is_no_memory (side_at e).cause ≡ true) × (f ≡ e)
