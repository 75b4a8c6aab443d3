-- The names on which an entity stands, as far as they are left.
use Rattle.std.specs.Prelude.{ℕ, List, [], ◌∷◌, map}
use Rattle.uno_model.specs.Registry.{mandatory_bases}
use Rattle.uno_entities.specs.Entities.{base_of}
use Rattle.type_registry.specs.declared.bases.Bases.{Bases}
use Rattle.type_registry.specs.declared.bases.Bases.TheVariants as bases

abbrev pub names_left : Bases → List (List ℕ)
names_left bases.Nothing = []
names_left (bases.Single name) = name.now ∷ []
names_left (bases.Listed listed) = mandatory_bases (map base_of listed.now)
