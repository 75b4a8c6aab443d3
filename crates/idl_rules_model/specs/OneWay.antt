-- The fourth rule: a one-way method returns void, has only parameters that go in, and raises nothing; at the method's name.
use Rattle.std.specs.Prelude.{not, ◌||◌, List, [], ◌∷◌}
use Rattle.std.specs.List.{flat_map}
use Rattle.uno_model.specs.Entities.{Entity}
use Rattle.registry_text_model.specs.OneWayMethods.{gives_nothing}
use Rattle.idl_model.specs.Places.{Place}
use Rattle.idl_model.specs.Trees.{InterfaceMember, method, Method, Declaration, interface}
use Rattle.idl_meaning_model.specs.Declarations.{Declared}
use Rattle.idl_meaning_model.specs.Meaning.{method_meant}
use Rattle.idl_rules_model.specs.WherePaths.{failing}

abbrev pub method_in : InterfaceMember → List Method
method_in (method m) = m ∷ []
method_in _ = []

abbrev pub methods_in : Declaration → List Method
methods_in (interface base members) = flat_map method_in members
methods_in _ = []

unfoldable pub giving_one_way : List Declared → List Entity → Declared → List Place
giving_one_way ds reg d = failing (λ m. not m.oneway || gives_nothing (method_meant ds d.modules m)) (λ m. m.name.place) (methods_in d.body)
