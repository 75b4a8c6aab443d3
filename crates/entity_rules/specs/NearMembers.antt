-- A member of a struct or an exception, one level up at most.
use Rattle.std.specs.Prelude.{Bool, not, ◌||◌, List, Some}
use Rattle.std.specs.List.{list_any}
use Rattle.uno_model.specs.Entities.{Entity, Body}
use Rattle.uno_model.specs.Registry.{own_members, member_bases}
use Rattle.uno_model.specs.Sound.{is_struct, is_exception, is_there, is_some_list}

-- a struct or an exception
abbrev pub carries : Body → Bool
carries body = is_struct body || is_exception body

-- if it is a struct or an exception, it has a member of its own, or a base that is one too
abbrev pub has_near_member : List Entity → Entity → Bool
has_near_member reg e = not (carries e.body) || (is_some_list (own_members (Some e)) || list_any (is_there reg carries) (member_bases (Some e)))
