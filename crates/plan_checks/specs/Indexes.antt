-- An index of fields by their names.
use Rattle.std.specs.Prelude.{◌≡◌, ℕ, List}
use Rattle.std.specs.BTreeMap.{BTreeMap, get_by_text}
use Rattle.std.specs.List.{position}
use Rattle.std.specs.Str.{bytes_eq}
use Rattle.std.specs.declared.string.String.{String}
use Rattle.uno_model.specs.Entities.{Field}

-- the map has the first place of each name
abbrev pub HasPlaces : {Y : Type 0} → BTreeMap (String Y) ℕ → List Field → Type 0
HasPlaces by_name fields = (name : List ℕ) → get_by_text by_name name ≡ position (λ f. bytes_eq name f.name) fields
