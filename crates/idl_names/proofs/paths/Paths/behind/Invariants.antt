use Rattle.std.proofs.Common.{◌≡◌, ◌++◌, [], Some, get_or, slice_get, take}
use Rattle.idl_names.proofs.paths.Paths.behind.Lts.Given as given

-- the path so far is that of the names so far
abbrev pub invariant-loop-name : given.Live-loop-name → Type 0
invariant-loop-name l = slice_get l.self l.number ≡ Some (get_or l.self l.from [] ++ take l.name-index l.names)
