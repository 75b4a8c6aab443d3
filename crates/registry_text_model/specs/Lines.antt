-- The text of a registry: a line for each thing that an entity says, its words parted by one blank, a type always last.
use Rattle.std.specs.Prelude.{ℕ, zero, suc, ◌+◌, ℤ, pos, negsuc, Bool, true, false, not, ◌∷◌, [], List, ◌++◌, map, filter, Option, None, Some, codes, if◌then◌else◌}
use Rattle.std.specs.List.{flat_map, list_any}
use Rattle.std.specs.Int.Digits.{digits_of}
use Rattle.std.specs.Str.{bytes_eq}
use Rattle.uno_model.specs.BuiltIn.{x_interface_name, exception_name, runtime_exception_name, disposed_exception_name, factory_name}
use Rattle.uno_model.specs.Entities.{Field, Param, Base, Attribute, Method, Member, attribute, method, Item, Constant, Constructor, Part, face, subservice, property}
use Rattle.uno_model.specs.Entities.{Body, interface, struct, exception, enum, constants, typedef, new_service, old_service, new_singleton, old_singleton, Entity}
use Rattle.uno_model.specs.Kinds.{name_of}
use Rattle.uno_model.specs.declared.flags.Flags.{Flags}
use Rattle.uno_model.specs.declared.way.Way.{Way}
use Rattle.uno_model.specs.declared.way.Way.TheVariants as way

-- a whole number of any size in decimal digits, without a leading zero
unfoldable pub digits_text : ℕ → List ℕ
digits_text zero = codes "0"
digits_text (suc n) = map (λ d. 48 + d) (digits_of 10 (suc n))

unfoldable pub numeral : ℤ → List ℕ
numeral (pos n) = digits_text n
numeral (negsuc n) = 45 ∷ digits_text (suc n)

-- a word, a blank, and what stands behind it
unfoldable pub spaced : List ℕ → List ℕ → List ℕ
spaced word behind = word ++ 32 ∷ behind

-- ---- the lines of an interface

-- `base NAME` or `optional NAME`
unfoldable pub base_word : Bool → List ℕ
base_word true = codes "optional"
base_word false = codes "base"

abbrev pub base_line : Base → List ℕ
base_line b = spaced (base_word b.optional) b.name

-- `attribute NAME rw TYPE`, or `ro`
unfoldable pub access_word : Bool → List ℕ
access_word true = codes "ro"
access_word false = codes "rw"

abbrev pub attribute_line : Attribute → List ℕ
attribute_line a = spaced (codes "attribute") (spaced a.name (spaced (access_word a.read_only) (name_of a.kind)))

-- `method NAME TYPE`, or `oneway NAME`
abbrev pub method_line : Method → List ℕ
method_line m = if m.oneway then spaced (codes "oneway") m.name else spaced (codes "method") (spaced m.name (name_of m.result_kind))

-- `param in NAME TYPE`, or `out` or `inout`
unfoldable pub way_word : Way → List ℕ
way_word way.Into = codes "in"
way_word way.Out = codes "out"
way_word way.Both = codes "inout"

abbrev pub param_line : Param → List ℕ
param_line p = spaced (codes "param") (spaced (way_word p.way) (spaced p.name (name_of p.kind)))

-- a line for each name
abbrev pub name_lines : List ℕ → List (List ℕ) → List (List ℕ)
name_lines word names = map (spaced word) names

-- an attribute, and what reading and writing it may raise; a method, its parameters, and what it may raise
abbrev pub member_lines : Member → List (List ℕ)
member_lines (attribute a) = attribute_line a ∷ (name_lines (codes "getraises") a.get_raises ++ name_lines (codes "setraises") a.set_raises)
member_lines (method m) = method_line m ∷ (map param_line m.params ++ name_lines (codes "raises") m.raises)

-- ---- the lines of the other entities

-- `member NAME TYPE`
abbrev pub field_line : Field → List ℕ
field_line f = spaced (codes "member") (spaced f.name (name_of f.kind))

-- `value NAME NUMBER`
abbrev pub item_line : Item → List ℕ
item_line i = spaced (codes "value") (spaced i.name (numeral i.number))

-- `const NAME NUMBER TYPE`
abbrev pub constant_line : Constant → List ℕ
constant_line c = spaced (codes "const") (spaced c.name (spaced (numeral c.number) (name_of c.kind)))

-- `constructor NAME`, its parameters, all of which go in, its rest parameter and what it may raise
abbrev pub given_line : Field → List ℕ
given_line f = spaced (codes "param") (spaced (codes "in") (spaced f.name (name_of f.kind)))

abbrev pub rest_lines : Option (List ℕ) → List (List ℕ)
rest_lines None = []
rest_lines (Some name) = spaced (codes "rest") name ∷ []

abbrev pub constructor_lines : Constructor → List (List ℕ)
constructor_lines c = spaced (codes "constructor") c.name ∷ (map given_line c.params ++ (rest_lines c.rest ++ name_lines (codes "raises") c.raises))

-- the flags of a property in the order of the grammar, with a comma between any two, or `-`
abbrev pub flag_word : Bool → List ℕ → List (List ℕ)
flag_word true word = word ∷ []
flag_word false word = []

unfoldable pub flag_words : Flags → List (List ℕ)
flag_words f =
    flag_word f.bound (codes "bound") ++ (flag_word f.constrained (codes "constrained") ++ (flag_word f.maybeambiguous (codes "maybeambiguous")
    ++ (flag_word f.maybedefault (codes "maybedefault") ++ (flag_word f.maybevoid (codes "maybevoid") ++ (flag_word f.optional (codes "optional")
    ++ (flag_word f.readonly (codes "readonly") ++ (flag_word f.removable (codes "removable") ++ flag_word f.transient (codes "transient"))))))))

unfoldable pub joined_by_commas : List (List ℕ) → List ℕ
joined_by_commas [] = codes "-"
joined_by_commas (word ∷ words) = word ++ flat_map (λ w. 44 ∷ w) words

-- `interface NAME` or `optinterface NAME`; `service NAME` or `optservice NAME`; `property NAME FLAGS TYPE`
unfoldable pub face_word : Bool → List ℕ
face_word true = codes "optinterface"
face_word false = codes "interface"

unfoldable pub subservice_word : Bool → List ℕ
subservice_word true = codes "optservice"
subservice_word false = codes "service"

abbrev pub part_line : Part → List ℕ
part_line (face optional name) = spaced (face_word optional) name
part_line (subservice optional name) = spaced (subservice_word optional) name
part_line (property name flags k) = spaced (codes "property") (spaced name (spaced (joined_by_commas (flag_words flags)) (name_of k)))

-- ---- the lines of an entity

-- a name, and the base behind it where there is one
abbrev pub name_and_base : List ℕ → Option (List ℕ) → List ℕ
name_and_base name None = name
name_and_base name (Some base) = spaced name base

abbrev pub header_words : List ℕ → Body → List ℕ
header_words name (interface bases members) = spaced (codes "interface") name
header_words name (struct base members) = spaced (codes "struct") (name_and_base name base)
header_words name (exception base members) = spaced (codes "exception") (name_and_base name base)
header_words name (enum items) = spaced (codes "enum") name
header_words name (constants cs) = spaced (codes "constants") name
header_words name (typedef k) = spaced (codes "typedef") (spaced name (name_of k))
header_words name (new_service base constructors) = spaced (codes "service") (spaced name (spaced (codes "new") base))
header_words name (old_service parts) = spaced (codes "service") (spaced name (codes "old"))
header_words name (new_singleton base) = spaced (codes "singleton") (spaced name (spaced (codes "new") base))
header_words name (old_singleton service) = spaced (codes "singleton") (spaced name (spaced (codes "old") service))

-- the first line of an entity, perhaps behind `published`
abbrev pub header_line : Entity → List ℕ
header_line e = if e.published then spaced (codes "published") (header_words e.name e.body) else header_words e.name e.body

-- the lines under it
abbrev pub body_lines : Body → List (List ℕ)
body_lines (interface bases members) = map base_line bases ++ flat_map member_lines members
body_lines (struct base members) = map field_line members
body_lines (exception base members) = map field_line members
body_lines (enum items) = map item_line items
body_lines (constants cs) = map constant_line cs
body_lines (new_service base constructors) = flat_map constructor_lines constructors
body_lines (old_service parts) = map part_line parts
body_lines _ = []

abbrev pub entity_lines : Entity → List (List ℕ)
entity_lines e = header_line e ∷ (body_lines e.body ++ codes "end" ∷ [])

-- ---- the lines of a registry

-- the built-in entities are in every registry, and are not written
abbrev pub built_in_names : List (List ℕ)
built_in_names = disposed_exception_name ∷ (factory_name ∷ (exception_name ∷ (runtime_exception_name ∷ (x_interface_name ∷ []))))

unfoldable pub is_built_in_name : List ℕ → Bool
is_built_in_name name = list_any (bytes_eq name) built_in_names

abbrev pub written : List Entity → List Entity
written reg = filter (λ e. not (is_built_in_name e.name)) reg

abbrev pub registry_lines : List Entity → List (List ℕ)
registry_lines reg = codes "unoreg 1" ∷ flat_map entity_lines (written reg)

-- each line ends with a line feed
unfoldable pub text_of : List (List ℕ) → List ℕ
text_of lines = flat_map (λ line. line ++ 10 ∷ []) lines

abbrev pub registry_text : List Entity → List ℕ
registry_text reg = text_of (registry_lines reg)
