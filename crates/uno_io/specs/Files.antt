-- Files by their names, as far as a store tells them, and when a reading may fail.
use Rattle.std.specs.Prelude.{◌≡◌, ℕ, List, take, Option, option_map}
use Rattle.std.specs.Map.{lookup}
use Rattle.std.specs.Str.{bytes_eq}
use Rattle.uno_base.specs.Causes.{Rose}
use Rattle.uno_io.specs.declared.file_error.FileError.{FileError}
use Rattle.uno_io.specs.declared.file_error.FileError.TheVariants.{NoMemory, Failed}

-- what is read of a file: its bytes, or the first of them, one more than a file may have, so that a longer one is seen to be too long
unfoldable pub read_front : List ℕ → List ℕ
read_front bytes = take 4194305 bytes

-- names with the bytes of their files
abbrev pub Stored : Type 0
Stored = List (List ℕ × List ℕ)

-- what is read of the file of this name, the first that has it
unfoldable pub read_at : List ℕ → Stored → Option (List ℕ)
read_at name files = option_map read_front (lookup (bytes_eq name) files)

-- a count of faults at an error: it rises where the store failed, and stays where memory ran out
abbrev pub CountAt : ℕ → ℕ → FileError → Type 0
CountAt before now NoMemory = now ≡ before
CountAt before now Failed = Rose before now

-- a store of files in memory: which of its calls fail, the number of the next, and how often it failed
pub record Shelf : Type 0 where
  pub files : Stored
  pub failing : List ℕ
  pub calls : ℕ
  pub faults : ℕ
