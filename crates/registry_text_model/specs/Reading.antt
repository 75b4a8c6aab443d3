-- What a text says of a registry, or which of its lines is the first that is wrong: by the printed texts alone.
use Rattle.std.specs.Prelude.{◌≡◌, ℕ, suc, Bool, true, not, ◌&&◌, ◌||◌, ◌==◌, List, [], ◌∷◌, ◌++◌, length, map, IsTrue, codes}
use Rattle.std.specs.List.{list_all, flat_map}
use Rattle.uno_model.specs.BuiltIn.{HasBuiltIn}
use Rattle.uno_model.specs.Entities.{Entity, Body, Member, attribute, method, interface, struct, exception}
use Rattle.uno_model.specs.Kinds.{Kind}
use Rattle.uno_model.specs.Kinds as kd
use Rattle.uno_model.specs.Names.{is_entity_name}
use Rattle.uno_model.specs.Registry.{IsRising, at_most_one}
use Rattle.uno_model.specs.Sound.{is_named, is_there, is_interface, is_exception, is_enum}
use Rattle.uno_model.specs.Uses.{kinds_in, raised_names, interfaces_used, services_used}
use Rattle.registry_text_model.specs.Lines.{entity_lines, is_built_in_name, written, text_of}
use Rattle.registry_text_model.specs.OneWayMethods.{is_void}
use Rattle.registry_text_model.specs.Rules.{Rule, BreaksFirst}

-- ---- entities that a text can write

-- the names of the entities on which a body stands, optional ones too
abbrev pub base_names : Body → List (List ℕ)
base_names (interface bases members) = map (λ b. b.name) bases
base_names (struct base members) = at_most_one base
base_names (exception base members) = at_most_one base
base_names _ = []

-- all names of other entities, but for those in types
abbrev pub names_used : Body → List (List ℕ)
names_used body = base_names body ++ (raised_names body ++ (interfaces_used body ++ services_used body))

-- the name below all sequences of a type is an entity's
abbrev pub is_spelled : Kind → Bool
is_spelled (kd.enum name) = is_entity_name name
is_spelled (kd.struct name) = is_entity_name name
is_spelled (kd.exception name) = is_entity_name name
is_spelled (kd.interface name) = is_entity_name name
is_spelled (kd.sequence k) = is_spelled k
is_spelled _ = true

-- the result of a one-way method is not written: it is void
abbrev pub oneway_is_void : Member → Bool
oneway_is_void (attribute a) = true
oneway_is_void (method m) = not m.oneway || is_void m.result_kind

abbrev pub results_written : Body → Bool
results_written (interface bases members) = list_all oneway_is_void members
results_written _ = true

-- its names are names, whether there are entities of them or not
unfoldable pub is_writable : Entity → Bool
is_writable e = is_named e && (list_all is_entity_name (names_used e.body) && (list_all is_spelled (kinds_in e.body) && results_written e.body))

-- and none of them is built in
abbrev pub are_writable : List Entity → Bool
are_writable es = list_all (λ e. is_writable e && not (is_built_in_name e.name)) es

-- ---- lines that begin a text

-- the lines of the text with these entities
abbrev pub text_lines : List Entity → List (List ℕ)
text_lines es = codes "unoreg 1" ∷ flat_map entity_lines es

-- these lines stand at the front of the text of some entities, in whatever order
pub record Begin (lines : List (List ℕ)) : Type 0 where
  pub entities : List Entity
  pub behind : List (List ℕ)
  pub writable : IsTrue (are_writable entities)
  pub split : text_lines entities ≡ lines ++ behind

-- the same, of entities in rising order of their names
pub record BeginInOrder (lines : List (List ℕ)) : Type 0 where
  pub entities : List Entity
  pub behind : List (List ℕ)
  pub writable : IsTrue (are_writable entities)
  pub rising : IsRising entities
  pub split : text_lines entities ≡ lines ++ behind

-- ---- the first wrong line

-- there is no line feed in it
unfoldable pub is_one_line : List ℕ → Bool
is_one_line here = list_all (λ c. not (c == 10)) here

-- the lines before this one begin a text, and with it they begin none; or the text ends here, within a line or where more lines are owed
pub record IsBadLine (bytes : List ℕ) (line : ℕ) : Type 0 where
  pub before : List (List ℕ)
  pub rest : List ℕ
  pub split : bytes ≡ text_of before ++ rest
  pub place : line ≡ suc (length before)
  pub begun : BeginInOrder before
  pub wrong : (here behind : List ℕ) → rest ≡ here ++ 10 ∷ behind → IsTrue (is_one_line here) → Begin (before ++ here ∷ []) → ⊥
  pub unfinished : rest ≡ [] → (es : List Entity) → IsTrue (are_writable es) → before ≡ text_lines es → ⊥

-- the lines before this one begin a text, and with it they begin one, but none whose names rise
pub record IsOutOfOrder (bytes : List ℕ) (line : ℕ) : Type 0 where
  pub before : List (List ℕ)
  pub here : List ℕ
  pub behind : List ℕ
  pub split : bytes ≡ text_of (before ++ here ∷ []) ++ behind
  pub place : line ≡ suc (length before)
  pub begun : BeginInOrder before
  pub fits : Begin (before ++ here ∷ [])
  pub falls : BeginInOrder (before ++ here ∷ []) → ⊥

-- ---- what a text says

-- a name in a type that is an enum's, an exception's or an interface's stands as that, and each other as a struct's, whether there is one or not
abbrev pub is_resolved : List Entity → Kind → Bool
is_resolved reg (kd.enum name) = is_there reg is_enum name
is_resolved reg (kd.exception name) = is_there reg is_exception name
is_resolved reg (kd.interface name) = is_there reg is_interface name
is_resolved reg (kd.struct name) = not (is_there reg is_enum name || (is_there reg is_exception name || is_there reg is_interface name))
is_resolved reg (kd.sequence k) = is_resolved reg k
is_resolved reg _ = true

-- the text has the lines of these entities, which with the built-in ones are this registry
pub record Says (bytes : List ℕ) (es reg : List Entity) : Type 0 where
  pub text : bytes ≡ text_of (text_lines es)
  pub writable : IsTrue (are_writable es)
  pub resolved : IsTrue (list_all (λ e. list_all (is_resolved reg) (kinds_in e.body)) es)
  pub written : written reg ≡ es
  pub rising : IsRising reg
  pub built_in : HasBuiltIn reg

-- the text says a registry that breaks rules: this is the least of them, and at this line stands the header of the first entity that breaks it
pub record BreaksRule (bytes : List ℕ) (rule : Rule) (line : ℕ) : Type 0 where
  pub before : List Entity
  pub entity : Entity
  pub behind : List Entity
  pub reg : List Entity
  pub says : Says bytes (before ++ entity ∷ behind) reg
  pub first : BreaksFirst reg rule entity
  pub place : line ≡ suc (length (text_lines before))
