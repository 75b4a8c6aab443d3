-- Whether one entity is a base of another, and one type assignable to another, as tests.
use Rattle.std.specs.Prelude.{ℕ, zero, suc, Bool, ◌||◌, List, length}
use Rattle.std.specs.List.{list_any}
use Rattle.std.specs.Str.{bytes_eq}
use Rattle.uno_model.specs.Codes.{same_kind}
use Rattle.uno_model.specs.Entities.{Entity}
use Rattle.uno_model.specs.Kinds.{Kind}
use Rattle.uno_model.specs.Kinds as kd
use Rattle.uno_model.specs.Registry.{stands_on}

-- the one is the other, or one of the names on which the other stands comes to it over one level fewer
unfoldable pub reaches_within : ℕ → List Entity → List ℕ → List ℕ → Bool
reaches_within zero reg to from = bytes_eq from to
reaches_within (suc levels) reg to from = bytes_eq from to || list_any (reaches_within levels reg to) (stands_on reg from)

-- where nothing leads back to itself, no way over bases has more steps than there are entities
unfoldable pub is_base_of : List Entity → List ℕ → List ℕ → Bool
is_base_of reg to from = reaches_within (length reg) reg to from

-- `Assignable`, as a test
abbrev pub is_assignable : List Entity → Kind → Kind → Bool
is_assignable reg (kd.interface to) (kd.interface from) = is_base_of reg to from
is_assignable reg (kd.struct to) (kd.struct from) = is_base_of reg to from
is_assignable reg (kd.exception to) (kd.exception from) = is_base_of reg to from
is_assignable reg to from = same_kind from to
