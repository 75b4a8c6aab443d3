-- A reference that a root is to let go.
use Rattle.std.specs.Prelude.{ℕ, Bool, true, Option, None, Some}
use Rattle.bridge_model.specs.Entries.{Entry, dropped}
use Rattle.bridge_model.specs.Roots.{holds_pair}
use Rattle.bridge_model.specs.Sides.{Tables}
use Rattle.uno_model.specs.Values.{Ref, null, own, peer}

-- the root holds it; null is held by all
abbrev pub is_held : ℕ → Tables → Ref → Bool
is_held root t null = true
is_held root t (own oid face) = holds_pair root oid face t
is_held root t (peer oid face) = holds_pair root oid face t

-- the entry with which it goes; null goes without one
abbrev pub goes_with : ℕ → Ref → Option Entry
goes_with root null = None
goes_with root (own oid face) = Some (dropped root oid face)
goes_with root (peer oid face) = Some (dropped root oid face)
