-- The fields that constructors ask.
use Rattle.std.specs.Prelude.{Bool, ◌&&◌, List}
use Rattle.std.specs.List.{list_any}
use Rattle.std.specs.Str.{bytes_eq}
use Rattle.uno_model.specs.Codes.{same_kind}
use Rattle.uno_model.specs.Entities.{Field}

-- a field of this name and type is among these
abbrev pub is_among : List Field → Field → Bool
is_among fields p = list_any (λ f. bytes_eq p.name f.name && same_kind p.kind f.kind) fields
