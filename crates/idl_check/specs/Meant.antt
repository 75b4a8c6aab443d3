-- What is told of declarations that are meant.
use Rattle.std.specs.Prelude.{not, List, [], ◌∷◌, if◌then◌else◌}
use Rattle.idl_entities.specs.Telling.{Telling}
use Rattle.idl_meaning_model.specs.Declarations.{is_forward}
use Rattle.idl_meant.specs.Telling.{telling_in}
use Rattle.idl_meant.specs.declared.declaration.DeclarationMeaning.{DeclarationMeaning}

abbrev pub telling_of : DeclarationMeaning → Telling
telling_of d = telling_in d.meaning.now.resolved.now d.declared

-- one that declares an entity
abbrev pub entity_telling : Telling → List Telling
entity_telling t = if not (is_forward t.declared.body) then t ∷ [] else []
