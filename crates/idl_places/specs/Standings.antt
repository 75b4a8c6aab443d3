-- Where types stand, and those that may not.
use Rattle.std.specs.Prelude.{List}
use Rattle.idl_entities.specs.Telling.{Telling}
use Rattle.idl_model.specs.Places.{Place}
use Rattle.idl_model.specs.Trees.{WrittenType, ConstructorParameter}
use Rattle.idl_rules_model.specs.TypePlaces as model
use Rattle.idl_rules_model.specs.TypePlaces.{wrong_in_type, wrong_rest}
use Rattle.idl_places.specs.declared.types.Standing.{Standing}
use Rattle.idl_places.specs.declared.types.Standing.TheVariants as standing
use Rattle.uno_model.specs.Entities.{Entity}

abbrev pub standing_of : Standing → model.Standing
standing_of standing.Value = model.value
standing_of standing.Result = model.result
standing_of standing.Target = model.target

-- a type of a declaration that stands so, and the types that stand in it
abbrev pub wrong_type : Telling → List Entity → model.Standing → WrittenType → List Place
wrong_type t reg standing written = wrong_in_type t.all reg t.declared.modules standing written

abbrev pub wrong_stand : Telling → List Entity → model.Stands → List Place
wrong_stand t reg s = wrong_in_type t.all reg t.declared.modules s.standing s.type

abbrev pub wrong_rest_of : Telling → List ConstructorParameter → List Place
wrong_rest_of t parameters = wrong_rest t.all t.declared.modules parameters
