-- What the slots of one direction mean: a table for the names of types, one for the identities of objects, and one for those of threads.
use Rattle.std.specs.Prelude.{ℕ, nat_lt, List, get_or, Option, None, if◌then◌else◌}
use Rattle.urp_model.specs.Slots.{no_meanings, announced}

-- what each slot means
abbrev pub Table : Type 0
Table = List (Option (List ℕ))

-- the three tables of one direction
pub record Tables : Type 0 where
  pub types : Table
  pub oids : Table
  pub tids : Table

-- the tables before any announcement
unfoldable pub no_tables : Tables
no_tables = record { types = no_meanings; oids = no_meanings; tids = no_meanings }

-- what a slot means; a number past the 256 slots means nothing
unfoldable pub meaning : ℕ → Table → Option (List ℕ)
meaning slot table = if nat_lt slot 256 then get_or table slot None else None

-- the table after a name was written out with a slot; with a number past the 256 slots it changes nothing
unfoldable pub noted : ℕ → List ℕ → Table → Table
noted slot name table = if nat_lt slot 256 then announced slot name table else table

-- the tables with another one of types
abbrev pub with_types : Tables → Table → Tables
with_types s table = record { types = table; oids = s.oids; tids = s.tids }

-- with another one of objects
abbrev pub with_oids : Tables → Table → Tables
with_oids s table = record { types = s.types; oids = table; tids = s.tids }

-- with another one of threads
abbrev pub with_tids : Tables → Table → Tables
with_tids s table = record { types = s.types; oids = s.oids; tids = table }
