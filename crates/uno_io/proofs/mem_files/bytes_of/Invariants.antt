use Rattle.std.specs.Prelude.{◌≡◌, drop}
use Rattle.std.specs.Map.{lookup}
use Rattle.std.specs.Str.{bytes_eq}
use Rattle.uno_io.specs.MemFiles.{stored_of}
use Rattle.uno_io.proofs.mem_files.bytes_of.Given as goal

-- the file of the name is among those that are left, if one is there
abbrev pub invariant-loop-file : goal.invariant-loop-file
invariant-loop-file l = lookup (bytes_eq l.name) (stored_of (drop l.file-index l.files)) ≡ lookup (bytes_eq l.name) (stored_of l.files)
