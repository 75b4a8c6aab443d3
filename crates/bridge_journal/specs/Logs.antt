-- Journals as lists of entries.
use Rattle.std.specs.Prelude.{ℕ, ◌+◌, ◌-◌, List, [], ◌∷◌, ◌++◌, map}
use Rattle.bridge_model.specs.Entries as plain
use Rattle.uno_values.specs.Values.{plain_of}
use Rattle.bridge_journal.specs.declared.entry.Entry.{Entry}
use Rattle.bridge_journal.specs.declared.entry.Entry.TheVariants as entry

abbrev pub entry_of : Entry → plain.Entry
entry_of (entry.Fed bytes) = plain.fed bytes.items
entry_of entry.Ended = plain.ended
entry_of entry.Failed = plain.failed
entry_of (entry.Asked root name wanted) = plain.asked root name wanted
entry_of (entry.Called root oid face function args) = plain.called root oid face function (map plain_of args.items)
entry_of (entry.Queried root oid face wanted) = plain.queried root oid face wanted
entry_of (entry.Made root behaviour wanted) = plain.made root behaviour wanted
entry_of (entry.Dropped root oid face) = plain.dropped root oid face
entry_of (entry.Applied tid) = plain.applied tid
entry_of (entry.Took root) = plain.took root
entry_of (entry.Reaped object) = plain.reaped object
entry_of (entry.Drained bytes) = plain.drained bytes.items
entry_of entry.Disposed = plain.disposed
entry_of entry.Full = plain.full
entry_of entry.NoMemory = plain.no_memory

-- what a contract sees of a journal: its entries, oldest first; the mark of each; the mark of those to come; and for how many there is room
pub record Log : Type 0 where
  pub entries : List plain.Entry
  pub stamps : List ℕ
  pub stamp : ℕ
  pub room : ℕ

abbrev pub empty_log : Log
empty_log = record { entries = []; stamps = []; stamp = 0; room = 0 }

abbrev pub more_room : Log → Log
more_room l = record l { room = l.room + 1 }

abbrev pub less_room : Log → Log
less_room l = record l { room = l.room - 1 }

-- an entry more, in its room
abbrev pub entered : plain.Entry → Log → Log
entered e l = record { entries = l.entries ++ e ∷ []; stamps = l.stamps ++ l.stamp ∷ []; stamp = l.stamp; room = l.room - 1 }

-- another mark
abbrev pub stamped : ℕ → Log → Log
stamped next l = record l { stamp = next }
