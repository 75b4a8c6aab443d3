-- What is raised that is no exception, and attributes that are read-only and whose `set` raises.
use Rattle.std.specs.Prelude.{Bool, not, ◌||◌, ◌++◌, List}
use Rattle.idl_entities.specs.Telling.{Telling}
use Rattle.idl_meaning_model.specs.Meaning.{is_read_only}
use Rattle.idl_meaning_model.specs.Uses.{accessor_raises}
use Rattle.idl_model.specs.Places.{Place}
use Rattle.idl_model.specs.Trees.{Attribute, Declaration}
use Rattle.idl_places.specs.Places.{wrong_paths}
use Rattle.idl_rules_model.specs.Raised.{raised_in, attributes_in}
use Rattle.idl_rules_model.specs.WherePaths.{failing}
use Rattle.uno_model.specs.Entities.{Entity}
use Rattle.uno_model.specs.Sound.{is_exception, is_some_list}

abbrev pub sets_rightly : Attribute → Bool
sets_rightly a = not (is_read_only a) || not (is_some_list (accessor_raises a.set))

abbrev pub setting_wrongly : List Attribute → List Place
setting_wrongly attributes = failing sets_rightly (λ a. a.name.place) attributes

abbrev pub raising_wrongly : Telling → List Entity → Declaration → List Place
raising_wrongly t reg body = wrong_paths t reg is_exception (raised_in body) ++ setting_wrongly (attributes_in body)
