-- The tenth rule: void is a method's result alone; exceptions are no members, parameters or elements; services, singletons and constants are no types; and `...`
-- follows any and is the last. At the type, that of an element too. What stands inside a typedef's target is judged at the typedef alone.
use Rattle.std.specs.Prelude.{ℕ, Bool, true, false, not, ◌&&◌, ◌||◌, List, [], ◌∷◌, ◌++◌, map, if◌then◌else◌}
use Rattle.std.specs.List.{flat_map}
use Rattle.uno_model.specs.Entities.{Entity, Body}
use Rattle.uno_model.specs.Kinds.{Kind}
use Rattle.uno_model.specs.Kinds as kd
use Rattle.uno_model.specs.Sound.{is_there, is_type_body}
use Rattle.registry_text_model.specs.NoCircles.{is_typedef}
use Rattle.idl_model.specs.Places.{Place}
use Rattle.idl_model.specs.Trees.{Path, WrittenType, simple, named, sequence_of, InterfaceMember, base_member, attribute, method}
use Rattle.idl_model.specs.Trees.{ConstructorParameter, ServiceMember, property}
use Rattle.idl_model.specs.Trees.{Declaration, interface, struct, exception, constants, typedef, new_service, old_service}
use Rattle.idl_meaning_model.specs.Declarations.{Declared}
use Rattle.idl_meaning_model.specs.Meaning.{name_meant, simple_meant, path_meant, type_meant}

-- ---- types

-- where a type stands: at a member, parameter, constant or element, at a method's result, or at a typedef's target
pub data Standing : Type 0 where
  value : Standing
  result : Standing
  target : Standing

abbrev pub may_be_void : Standing → Bool
may_be_void result = true
may_be_void _ = false

abbrev pub may_be_exception : Standing → Bool
may_be_exception value = false
may_be_exception _ = true

abbrev pub kind_may_stand : Standing → Kind → Bool
kind_may_stand standing kd.void = may_be_void standing
kind_may_stand standing (kd.exception name) = may_be_exception standing
kind_may_stand standing _ = true

-- an entity that is a type, or a typedef
abbrev pub is_type_name : Body → Bool
is_type_name body = is_type_body body || is_typedef body

abbrev pub path_may_stand : List Declared → List Entity → List (List ℕ) → Standing → Path → Bool
path_may_stand ds reg modules standing path = is_there reg is_type_name (name_meant ds modules path) && kind_may_stand standing (path_meant ds modules path)

abbrev pub at_unless : Place → Bool → List Place
at_unless place right = if right then [] else place ∷ []

unfoldable pub wrong_in_type : List Declared → List Entity → List (List ℕ) → Standing → WrittenType → List Place
wrong_in_type ds reg modules standing (simple p s) = at_unless p (kind_may_stand standing (simple_meant s))
wrong_in_type ds reg modules standing (named path ts) = at_unless path.place (path_may_stand ds reg modules standing path)
wrong_in_type ds reg modules standing (sequence_of p t) = wrong_in_type ds reg modules value t

-- ---- `...`

abbrev pub is_any : Kind → Bool
is_any kd.any = true
is_any _ = false

-- the place of the first token of a type
abbrev pub place_of_type : WrittenType → Place
place_of_type (simple p s) = p
place_of_type (named path ts) = path.place
place_of_type (sequence_of p t) = p

unfoldable pub wrong_rest : List Declared → List (List ℕ) → List ConstructorParameter → List Place
wrong_rest ds modules [] = []
wrong_rest ds modules (p ∷ []) = at_unless (place_of_type p.type) (not p.rest || is_any (type_meant ds modules p.type))
wrong_rest ds modules (p ∷ q ∷ ps) = at_unless (place_of_type p.type) (not p.rest) ++ wrong_rest ds modules (q ∷ ps)

-- ---- the rule

-- a type, and where it stands
pub record Stands : Type 0 where
  pub standing : Standing
  pub type : WrittenType

abbrev pub as_value : WrittenType → Stands
as_value t = record { standing = value; type = t }

abbrev pub in_member : InterfaceMember → List Stands
in_member (base_member optional path) = []
in_member (attribute a) = as_value a.type ∷ []
in_member (method m) = record { standing = result; type = m.result_type } ∷ map (λ p. as_value p.type) m.parameters

abbrev pub in_service : ServiceMember → List Stands
in_service (property p) = as_value p.type ∷ []
in_service _ = []

unfoldable pub types_standing : Declaration → List Stands
types_standing (interface base members) = flat_map in_member members
types_standing (struct base members) = map (λ m. as_value m.type) members
types_standing (exception base members) = map (λ m. as_value m.type) members
types_standing (constants cs) = map (λ c. as_value c.type) cs
types_standing (typedef t) = record { standing = target; type = t } ∷ []
types_standing (new_service base constructors) = flat_map (λ c. map (λ p. as_value p.type) c.parameters) constructors
types_standing (old_service members) = flat_map in_service members
types_standing _ = []

abbrev pub wrong_rests : List Declared → List (List ℕ) → Declaration → List Place
wrong_rests ds modules (new_service base constructors) = flat_map (λ c. wrong_rest ds modules c.parameters) constructors
wrong_rests ds modules _ = []

unfoldable pub wrong_types : List Declared → List Entity → Declared → List Place
wrong_types ds reg d = flat_map (λ s. wrong_in_type ds reg d.modules s.standing s.type) (types_standing d.body) ++ wrong_rests ds d.modules d.body
