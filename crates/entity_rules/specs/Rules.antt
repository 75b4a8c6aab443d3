-- The rules of one entity that look at no other entity's bases.
use Rattle.std.specs.Prelude.{Bool, ◌&&◌, List}
use Rattle.uno_model.specs.Entities.{Entity}
use Rattle.uno_model.specs.Sound.{is_named, is_complete, is_within_limits, types_allowed, bases_known, raises_known, services_known, types_known}

abbrev pub keeps_rules : List Entity → Entity → Bool
keeps_rules reg e =
    is_named e && is_complete e && is_within_limits e && types_allowed e.body && bases_known reg e.body && raises_known reg e.body && services_known reg e.body
    && types_known reg e.body
