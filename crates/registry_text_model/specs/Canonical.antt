-- Canonical UNOIDL: a line for each entity, all its tokens parted by one blank.
use Rattle.std.specs.Prelude.{ℕ, suc, ◌==◌, ℤ, pos, negsuc, Bool, true, false, not, ◌&&◌, ◌||◌, is_none, List, [], ◌∷◌, ◌++◌, Option, None, Some, codes, if◌then◌else◌}
use Rattle.std.specs.List.{flat_map}
use Rattle.std.specs.Fmt.{decimal}
use Rattle.std.specs.Str.{bytes_eq}
use Rattle.uno_model.specs.Entities.{Field, Param, Base, Attribute, Method, Member, attribute, method, Item, Constant, Constructor, Part, face, subservice, property}
use Rattle.uno_model.specs.Entities.{Body, interface, struct, exception, enum, constants, typedef, new_service, old_service, new_singleton, old_singleton, Entity}
use Rattle.uno_model.specs.Kinds.{Kind, name_of}
use Rattle.uno_model.specs.Kinds as kd
use Rattle.uno_model.specs.Names.{parts_of}
use Rattle.uno_model.specs.Sound.{is_some_list}
use Rattle.registry_text_model.specs.Lines.{way_word, flag_words, written}

-- ---- names, types, numbers and lists

-- `::`, and the name with `::` for each point
abbrev pub colons : ℕ → List ℕ
colons c = if c == 46 then codes "::" else c ∷ []

unfoldable pub absolute : List ℕ → List ℕ
absolute name = codes "::" ++ flat_map colons name

-- the words of a simple type, the absolute name of an entity, or `sequence < TYPE >`
unfoldable pub kind_tokens : Kind → List (List ℕ)
kind_tokens kd.unsigned_short = codes "unsigned" ∷ (codes "short" ∷ [])
kind_tokens kd.unsigned_long = codes "unsigned" ∷ (codes "long" ∷ [])
kind_tokens kd.unsigned_hyper = codes "unsigned" ∷ (codes "hyper" ∷ [])
kind_tokens (kd.enum name) = absolute name ∷ []
kind_tokens (kd.struct name) = absolute name ∷ []
kind_tokens (kd.exception name) = absolute name ∷ []
kind_tokens (kd.interface name) = absolute name ∷ []
kind_tokens (kd.sequence k) = codes "sequence" ∷ (codes "<" ∷ (kind_tokens k ++ codes ">" ∷ []))
kind_tokens k = name_of k ∷ []

-- a negative number is `-` and its digits
unfoldable pub number_tokens : ℤ → List (List ℕ)
number_tokens (pos n) = decimal n ∷ []
number_tokens (negsuc n) = codes "-" ∷ (decimal (suc n) ∷ [])

-- the tokens of each, with a comma before all but the first
unfoldable pub listed : {X : Type 0} → (X → List (List ℕ)) → List X → List (List ℕ)
listed tokens [] = []
listed tokens (x ∷ xs) = tokens x ++ flat_map (λ y. codes "," ∷ tokens y) xs

-- `raises ( NAME , NAME )`, where there are names
abbrev pub raises_tokens : List (List ℕ) → List (List ℕ)
raises_tokens [] = []
raises_tokens (name ∷ names) = codes "raises" ∷ (codes "(" ∷ (listed (λ n. absolute n ∷ []) (name ∷ names) ++ codes ")" ∷ []))

-- ---- interfaces

-- a base as a member
abbrev pub optional_flag : Bool → List (List ℕ)
optional_flag true = codes "[" ∷ (codes "optional" ∷ (codes "]" ∷ []))
optional_flag false = []

abbrev pub base_member : Base → List (List ℕ)
base_member b = optional_flag b.optional ++ (codes "interface" ∷ (absolute b.name ∷ (codes ";" ∷ [])))

-- a base that is not optional and is the only one stands behind `:`, and others are members
abbrev pub is_only_base : List Base → Bool
is_only_base (b ∷ []) = not b.optional
is_only_base _ = false

abbrev pub behind_colon : List ℕ → List (List ℕ)
behind_colon name = codes ":" ∷ (absolute name ∷ [])

abbrev pub only_base : List Base → List (List ℕ)
only_base bases = if is_only_base bases then flat_map (λ b. behind_colon b.name) bases else []

abbrev pub base_members : List Base → List (List ℕ)
base_members bases = if is_only_base bases then [] else flat_map base_member bases

-- what an attribute's `get` or `set` may raise, where there is something
abbrev pub accessor_tokens : List ℕ → List (List ℕ) → List (List ℕ)
accessor_tokens word [] = []
accessor_tokens word (name ∷ names) = word ∷ (raises_tokens (name ∷ names) ++ codes ";" ∷ [])

-- an attribute without raises has no braces
abbrev pub accessors : Attribute → List (List ℕ)
accessors a =
    if is_some_list a.get_raises || is_some_list a.set_raises
    then codes "{" ∷ (accessor_tokens (codes "get") a.get_raises ++ (accessor_tokens (codes "set") a.set_raises ++ codes "}" ∷ []))
    else []

abbrev pub access_flag : Bool → List (List ℕ)
access_flag true = codes "," ∷ (codes "readonly" ∷ [])
access_flag false = []

abbrev pub attribute_tokens : Attribute → List (List ℕ)
attribute_tokens a =
    codes "[" ∷ (codes "attribute" ∷ (access_flag a.read_only ++ (codes "]" ∷ (kind_tokens a.kind ++ (a.name ∷ (accessors a ++ codes ";" ∷ []))))))

abbrev pub param_tokens : Param → List (List ℕ)
param_tokens p = codes "[" ∷ (way_word p.way ∷ (codes "]" ∷ (kind_tokens p.kind ++ p.name ∷ [])))

abbrev pub oneway_flag : Bool → List (List ℕ)
oneway_flag true = codes "[" ∷ (codes "oneway" ∷ (codes "]" ∷ []))
oneway_flag false = []

abbrev pub method_tokens : Method → List (List ℕ)
method_tokens m =
    oneway_flag m.oneway ++ (kind_tokens m.result_kind ++ (m.name ∷ (codes "(" ∷ (listed param_tokens m.params ++ (codes ")" ∷ (raises_tokens m.raises ++ codes ";" ∷ []))))))

abbrev pub member_tokens : Member → List (List ℕ)
member_tokens (attribute a) = attribute_tokens a
member_tokens (method m) = method_tokens m

-- ---- the other entities

-- members stand one by one
abbrev pub field_tokens : Field → List (List ℕ)
field_tokens f = kind_tokens f.kind ++ (f.name ∷ (codes ";" ∷ []))

abbrev pub base_tokens : Option (List ℕ) → List (List ℕ)
base_tokens None = []
base_tokens (Some name) = behind_colon name

-- an item's value is always written
abbrev pub item_tokens : Item → List (List ℕ)
item_tokens i = i.name ∷ (codes "=" ∷ number_tokens i.number)

abbrev pub constant_tokens : Constant → List (List ℕ)
constant_tokens c = codes "const" ∷ (kind_tokens c.kind ++ (c.name ∷ (codes "=" ∷ (number_tokens c.number ++ codes ";" ∷ []))))

-- the parameters of a constructor go in; the rest parameter is the last, behind `...`
abbrev pub given_tokens : Field → List (List ℕ)
given_tokens f = codes "[" ∷ (codes "in" ∷ (codes "]" ∷ (kind_tokens f.kind ++ f.name ∷ [])))

abbrev pub rest_param : List ℕ → List (List ℕ)
rest_param name = codes "[" ∷ (codes "in" ∷ (codes "]" ∷ (codes "any" ∷ (codes "..." ∷ (name ∷ [])))))

-- a comma behind other parameters
abbrev pub comma_behind : Bool → List (List ℕ)
comma_behind true = codes "," ∷ []
comma_behind false = []

abbrev pub rest_tokens : Bool → Option (List ℕ) → List (List ℕ)
rest_tokens others None = []
rest_tokens others (Some name) = comma_behind others ++ rest_param name

abbrev pub constructor_tokens : Constructor → List (List ℕ)
constructor_tokens c =
    c.name ∷ (codes "(" ∷ (listed given_tokens c.params ++ (rest_tokens (is_some_list c.params) c.rest ++ (codes ")" ∷ (raises_tokens c.raises ++ codes ";" ∷ [])))))

-- the constructor that a service without constructors has: `create`, without parameters, and raising nothing
abbrev pub is_implicit : Constructor → Bool
is_implicit c = bytes_eq c.name (codes "create") && (not (is_some_list c.params) && (is_none c.rest && not (is_some_list c.raises)))

abbrev pub is_implicit_alone : List Constructor → Bool
is_implicit_alone (c ∷ []) = is_implicit c
is_implicit_alone _ = false

-- the constructors in braces; the implicit one alone is not written
abbrev pub constructors_tokens : List Constructor → List (List ℕ)
constructors_tokens cs = if is_implicit_alone cs then [] else codes "{" ∷ (flat_map constructor_tokens cs ++ codes "}" ∷ [])

-- what a service of the old form has; `property` stands before the other flags
abbrev pub part_tokens : Part → List (List ℕ)
part_tokens (face optional name) = optional_flag optional ++ (codes "interface" ∷ (absolute name ∷ (codes ";" ∷ [])))
part_tokens (subservice optional name) = optional_flag optional ++ (codes "service" ∷ (absolute name ∷ (codes ";" ∷ [])))
part_tokens (property name flags k) =
    codes "[" ∷ (codes "property" ∷ (flat_map (λ w. codes "," ∷ (w ∷ [])) (flag_words flags) ++ (codes "]" ∷ (kind_tokens k ++ (name ∷ (codes ";" ∷ []))))))

-- ---- declarations

-- the declaration of a body under its last name, but for the `;` at its end
abbrev pub declaration : List ℕ → Body → List (List ℕ)
declaration id (interface bases members) =
    codes "interface" ∷ (id ∷ (only_base bases ++ (codes "{" ∷ (base_members bases ++ (flat_map member_tokens members ++ codes "}" ∷ [])))))
declaration id (struct base members) = codes "struct" ∷ (id ∷ (base_tokens base ++ (codes "{" ∷ (flat_map field_tokens members ++ codes "}" ∷ []))))
declaration id (exception base members) = codes "exception" ∷ (id ∷ (base_tokens base ++ (codes "{" ∷ (flat_map field_tokens members ++ codes "}" ∷ []))))
declaration id (enum items) = codes "enum" ∷ (id ∷ (codes "{" ∷ (listed item_tokens items ++ codes "}" ∷ [])))
declaration id (constants cs) = codes "constants" ∷ (id ∷ (codes "{" ∷ (flat_map constant_tokens cs ++ codes "}" ∷ [])))
declaration id (typedef k) = codes "typedef" ∷ (kind_tokens k ++ id ∷ [])
declaration id (new_service base constructors) = codes "service" ∷ (id ∷ (behind_colon base ++ constructors_tokens constructors))
declaration id (old_service parts) = codes "service" ∷ (id ∷ (codes "{" ∷ (flat_map part_tokens parts ++ codes "}" ∷ [])))
declaration id (new_singleton base) = codes "singleton" ∷ (id ∷ behind_colon base)
declaration id (old_singleton service) = codes "singleton" ∷ (id ∷ (codes "{" ∷ (codes "service" ∷ (absolute service ∷ (codes ";" ∷ (codes "}" ∷ []))))))

abbrev pub published_flag : Bool → List (List ℕ)
published_flag true = codes "published" ∷ []
published_flag false = []

-- a declaration in its modules, the outermost first, but for the last `;`
unfoldable pub in_modules : Bool → Body → List (List ℕ) → List (List ℕ)
in_modules published body [] = []
in_modules published body (id ∷ []) = published_flag published ++ declaration id body
in_modules published body (m ∷ (n ∷ ns)) = codes "module" ∷ (m ∷ (codes "{" ∷ (in_modules published body (n ∷ ns) ++ (codes ";" ∷ (codes "}" ∷ [])))))

abbrev pub entity_tokens : Entity → List (List ℕ)
entity_tokens e = in_modules e.published e.body (parts_of e.name) ++ codes ";" ∷ []

-- ---- lines

-- tokens parted by one blank
unfoldable pub parted : List (List ℕ) → List ℕ
parted [] = []
parted (t ∷ []) = t
parted (t ∷ (u ∷ us)) = t ++ 32 ∷ parted (u ∷ us)

abbrev pub canonical_line : Entity → List ℕ
canonical_line e = parted (entity_tokens e)

-- a line for each entity that is not built in
abbrev pub canonical_unoidl : List Entity → List ℕ
canonical_unoidl reg = flat_map (λ e. canonical_line e ++ 10 ∷ []) (written reg)
