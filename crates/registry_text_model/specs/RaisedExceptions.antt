-- The fifth rule: what is raised are exceptions, and a read-only attribute has no setter that could raise one.
use Rattle.std.specs.Prelude.{Bool, true, not, ◌&&◌, ◌||◌, List}
use Rattle.std.specs.List.{list_all}
use Rattle.uno_model.specs.Entities.{Entity, Body, Member, attribute, method, interface}
use Rattle.uno_model.specs.Sound.{raises_known, is_some_list}

abbrev pub setter_raises_rightly : Member → Bool
setter_raises_rightly (attribute a) = not a.read_only || not (is_some_list a.set_raises)
setter_raises_rightly (method m) = true

abbrev pub setters_raise_rightly : Body → Bool
setters_raise_rightly (interface bases members) = list_all setter_raises_rightly members
setters_raise_rightly _ = true

unfoldable pub raises_exceptions : List Entity → Entity → Bool
raises_exceptions reg e = raises_known reg e.body && setters_raise_rightly e.body
