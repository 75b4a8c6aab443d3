-- One-way methods that give something back.
use Rattle.std.specs.Prelude.{not, ◌||◌, List}
use Rattle.idl_entities.specs.Telling.{Telling}
use Rattle.idl_meaning_model.specs.Meaning.{method_meant}
use Rattle.idl_model.specs.Places.{Place}
use Rattle.idl_model.specs.Trees.{Method}
use Rattle.idl_rules_model.specs.WherePaths.{failing}
use Rattle.registry_text_model.specs.OneWayMethods.{gives_nothing}

abbrev pub giving_back : Telling → List Method → List Place
giving_back t ms = failing (λ m. not m.oneway || gives_nothing (method_meant t.all t.declared.modules m)) (λ m. m.name.place) ms
