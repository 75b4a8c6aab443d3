-- Files in memory as names with their bytes.
use Rattle.std.specs.Prelude.{List, map, string_bytes}
use Rattle.uno_io.specs.Files.{Stored}
use Rattle.uno_io.specs.declared.mem_files.MemFile.{MemFile}

-- each file by its name
abbrev pub stored_of : List MemFile → Stored
stored_of files = map (λ f. (string_bytes f.name, f.bytes.items)) files
