-- Which line may follow which in the text of a registry.
use Rattle.std.specs.Prelude.{Bool, true, false, ◌&&◌, List, [], ◌∷◌, ◌++◌, map}
use Rattle.std.specs.List.{flat_map}
use Rattle.uno_model.specs.Entities.{Entity, Body, Member, attribute, method, Constructor, interface, struct, exception, enum, constants, typedef, new_service, old_service}
use Rattle.uno_model.specs.Entities.{new_singleton, old_singleton}
use Rattle.uno_model.specs.Registry.{at_most_one}
use Rattle.registry_text_model.specs.Lines.{written}

-- what a line is: the first of a text, a header by what may stand under it, a line under one, or the `end` of an entity
pub data Form : Type 0 where
  first : Form
  interface_header : Form
  fields_header : Form
  enum_header : Form
  constants_header : Form
  header_alone : Form
  new_service_header : Form
  old_service_header : Form
  base_line : Form
  attribute_line : Form
  getraises_line : Form
  setraises_line : Form
  method_line : Form
  param_line : Form
  raises_line : Form
  field_line : Form
  value_line : Form
  const_line : Form
  constructor_line : Form
  given_line : Form
  rest_line : Form
  raised_line : Form
  part_line : Form
  end_line : Form

abbrev pub is_header : Form → Bool
is_header interface_header = true
is_header fields_header = true
is_header enum_header = true
is_header constants_header = true
is_header header_alone = true
is_header new_service_header = true
is_header old_service_header = true
is_header _ = false

-- what stands behind a whole member of an interface, or a whole constructor
abbrev pub ends_member : Form → Bool
ends_member attribute_line = true
ends_member method_line = true
ends_member end_line = true
ends_member _ = false

abbrev pub ends_constructor : Form → Bool
ends_constructor constructor_line = true
ends_constructor end_line = true
ends_constructor _ = false

-- the second may stand right behind the first
abbrev pub may_follow : Form → Form → Bool
may_follow first f = is_header f
may_follow end_line f = is_header f
may_follow interface_header base_line = true
may_follow interface_header f = ends_member f
may_follow base_line base_line = true
may_follow base_line f = ends_member f
may_follow attribute_line getraises_line = true
may_follow attribute_line setraises_line = true
may_follow attribute_line f = ends_member f
may_follow getraises_line getraises_line = true
may_follow getraises_line setraises_line = true
may_follow getraises_line f = ends_member f
may_follow setraises_line setraises_line = true
may_follow setraises_line f = ends_member f
may_follow method_line param_line = true
may_follow method_line raises_line = true
may_follow method_line f = ends_member f
may_follow param_line param_line = true
may_follow param_line raises_line = true
may_follow param_line f = ends_member f
may_follow raises_line raises_line = true
may_follow raises_line f = ends_member f
may_follow fields_header field_line = true
may_follow field_line field_line = true
may_follow enum_header value_line = true
may_follow value_line value_line = true
may_follow constants_header const_line = true
may_follow const_line const_line = true
may_follow new_service_header f = ends_constructor f
may_follow constructor_line given_line = true
may_follow constructor_line rest_line = true
may_follow constructor_line raised_line = true
may_follow constructor_line f = ends_constructor f
may_follow given_line given_line = true
may_follow given_line rest_line = true
may_follow given_line raised_line = true
may_follow given_line f = ends_constructor f
may_follow rest_line raised_line = true
may_follow rest_line f = ends_constructor f
may_follow raised_line raised_line = true
may_follow raised_line f = ends_constructor f
may_follow old_service_header part_line = true
may_follow part_line part_line = true
may_follow fields_header end_line = true
may_follow field_line end_line = true
may_follow enum_header end_line = true
may_follow value_line end_line = true
may_follow constants_header end_line = true
may_follow const_line end_line = true
may_follow header_alone end_line = true
may_follow old_service_header end_line = true
may_follow part_line end_line = true
may_follow _ _ = false

-- each may follow the one before it
unfoldable pub is_in_order : Form → List Form → Bool
is_in_order f [] = true
is_in_order f (g ∷ gs) = may_follow f g && is_in_order g gs

-- ---- what the lines of an entity are

abbrev pub member_forms : Member → List Form
member_forms (attribute a) = attribute_line ∷ (map (λ _. getraises_line) a.get_raises ++ map (λ _. setraises_line) a.set_raises)
member_forms (method m) = method_line ∷ (map (λ _. param_line) m.params ++ map (λ _. raises_line) m.raises)

abbrev pub constructor_forms : Constructor → List Form
constructor_forms c = constructor_line ∷ (map (λ _. given_line) c.params ++ (map (λ _. rest_line) (at_most_one c.rest) ++ map (λ _. raised_line) c.raises))

abbrev pub header_form : Body → Form
header_form (interface bases members) = interface_header
header_form (struct base members) = fields_header
header_form (exception base members) = fields_header
header_form (enum items) = enum_header
header_form (constants cs) = constants_header
header_form (typedef k) = header_alone
header_form (new_service base constructors) = new_service_header
header_form (old_service parts) = old_service_header
header_form (new_singleton base) = header_alone
header_form (old_singleton service) = header_alone

abbrev pub body_forms : Body → List Form
body_forms (interface bases members) = map (λ _. base_line) bases ++ flat_map member_forms members
body_forms (struct base members) = map (λ _. field_line) members
body_forms (exception base members) = map (λ _. field_line) members
body_forms (enum items) = map (λ _. value_line) items
body_forms (constants cs) = map (λ _. const_line) cs
body_forms (new_service base constructors) = flat_map constructor_forms constructors
body_forms (old_service parts) = map (λ _. part_line) parts
body_forms _ = []

abbrev pub entity_forms : Entity → List Form
entity_forms e = header_form e.body ∷ (body_forms e.body ++ end_line ∷ [])

-- what the lines of a text are, behind the first
abbrev pub registry_forms : List Entity → List Form
registry_forms reg = flat_map entity_forms (written reg)
