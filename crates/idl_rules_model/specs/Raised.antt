-- The fifth rule: what is raised are exceptions, at its name; and a read-only attribute has no `set`, at the attribute's name.
use Rattle.std.specs.Prelude.{not, ◌||◌, List, [], ◌∷◌, ◌++◌}
use Rattle.std.specs.List.{flat_map}
use Rattle.uno_model.specs.Entities.{Entity}
use Rattle.uno_model.specs.Sound.{is_exception, is_some_list}
use Rattle.idl_model.specs.Places.{Place}
use Rattle.idl_model.specs.Trees.{Path, InterfaceMember, base_member, attribute, method, Attribute, Declaration, interface, new_service}
use Rattle.idl_meaning_model.specs.Declarations.{Declared}
use Rattle.idl_meaning_model.specs.Meaning.{is_read_only}
use Rattle.idl_meaning_model.specs.Uses.{accessor_raises}
use Rattle.idl_rules_model.specs.WherePaths.{failing, not_named}

abbrev pub raised_by : InterfaceMember → List Path
raised_by (base_member optional path) = []
raised_by (attribute a) = accessor_raises a.get ++ accessor_raises a.set
raised_by (method m) = m.raises

abbrev pub raised_in : Declaration → List Path
raised_in (interface base members) = flat_map raised_by members
raised_in (new_service base constructors) = flat_map (λ c. c.raises) constructors
raised_in _ = []

abbrev pub attribute_in : InterfaceMember → List Attribute
attribute_in (attribute a) = a ∷ []
attribute_in _ = []

abbrev pub attributes_in : Declaration → List Attribute
attributes_in (interface base members) = flat_map attribute_in members
attributes_in _ = []

unfoldable pub wrong_raises : List Declared → List Entity → Declared → List Place
wrong_raises ds reg d =
    not_named ds reg is_exception d.modules (raised_in d.body)
    ++ failing (λ a. not (is_read_only a) || not (is_some_list (accessor_raises a.set))) (λ a. a.name.place) (attributes_in d.body)
