-- What holds of trees that come from files: the names that they declare and use are made of identifiers, and no two names or types stand at one place.
use Rattle.std.specs.Prelude.{ℕ, Bool, true, false, not, ◌&&◌, List, [], ◌∷◌, ◌++◌, map, IsTrue}
use Rattle.std.specs.List.{list_all, list_any, flat_map}
use Rattle.uno_model.specs.Names.{is_identifier}
use Rattle.idl_model.specs.Places.{Place, is_at}
use Rattle.idl_model.specs.Trees.{Id, WrittenType, simple, named, sequence_of, Arguments, no_arguments, argument, Tree}
use Rattle.idl_model.specs.Trees.{InterfaceMember, base_member, attribute, method, Constructor, ServiceMember, property}
use Rattle.idl_model.specs.Trees.{Declaration, interface, struct, exception, enum, constants, new_service, old_service}
use Rattle.idl_meaning_model.specs.Declarations.{Declared, declarations}
use Rattle.idl_meaning_model.specs.Uses.{Use, uses, path_of, types_in}

-- ---- names

abbrev pub member_ids : InterfaceMember → List Id
member_ids (base_member optional path) = []
member_ids (attribute a) = a.name ∷ []
member_ids (method m) = m.name ∷ map (λ p. p.name) m.parameters

abbrev pub constructor_ids : Constructor → List Id
constructor_ids c = c.name ∷ map (λ p. p.name) c.parameters

abbrev pub service_ids : ServiceMember → List Id
service_ids (property p) = p.name ∷ []
service_ids _ = []

-- the names that a declaration declares inside
unfoldable pub inner_ids : Declaration → List Id
inner_ids (interface base members) = flat_map member_ids members
inner_ids (struct base members) = flat_map (λ m. m.names) members
inner_ids (exception base members) = flat_map (λ m. m.names) members
inner_ids (enum items) = map (λ i. i.name) items
inner_ids (constants cs) = map (λ c. c.name) cs
inner_ids (new_service base constructors) = flat_map constructor_ids constructors
inner_ids (old_service members) = flat_map service_ids members
inner_ids _ = []

abbrev pub is_spelled : Id → Bool
is_spelled id = is_identifier id.name

unfoldable pub has_identifiers : Declared → Bool
has_identifiers d = (list_all is_identifier d.modules && is_spelled d.name) && list_all is_spelled (inner_ids d.body)

-- a name that is used has one identifier at least
abbrev pub are_identifiers : List (List ℕ) → Bool
are_identifiers [] = false
are_identifiers (x ∷ xs) = list_all is_identifier (x ∷ xs)

abbrev pub is_spelled_use : Use → Bool
is_spelled_use u = are_identifiers (path_of u.used).parts

-- ---- places

-- the places of the simple types in a type
unfoldable mutual
  pub simple_places : WrittenType → List Place
  simple_places (simple p s) = p ∷ []
  simple_places (named path ts) = argument_places ts
  simple_places (sequence_of p t) = simple_places t

  pub argument_places : Arguments → List Place
  argument_places no_arguments = []
  argument_places (argument t ts) = simple_places t ++ argument_places ts

-- the places of names of entities, of names that are used, and of simple types
unfoldable pub leaf_places : List Declared → List Place
leaf_places ds = map (λ d. d.name.place) ds ++ (map (λ u. (path_of u.used).place) (uses ds) ++ flat_map (λ d. flat_map simple_places (types_in d.body)) ds)

unfoldable pub are_apart : List Place → Bool
are_apart [] = true
are_apart (p ∷ ps) = not (list_any (is_at p) ps) && are_apart ps

pub record AreOfFiles (trees : List Tree) : Type 0 where
  pub identifiers : IsTrue (list_all has_identifiers (declarations trees))
  pub used : IsTrue (list_all is_spelled_use (uses (declarations trees)))
  pub apart : IsTrue (are_apart (leaf_places (declarations trees)))
