-- A body with one line more, each type and number of the line changed.
use Rattle.std.specs.Prelude.{ℕ, Bool, true, false, not, ◌&&◌, is_none, List, [], ◌∷◌, ◌++◌, Option, None, Some, codes, if◌then◌else◌}
use Rattle.std.specs.Str.{bytes_eq}
use Rattle.uno_model.specs.Entities.{Field, Param, Base, Attribute, Method, Member, attribute, method, Item, Constant, Constructor, Part, face, subservice, property}
use Rattle.uno_model.specs.Entities.{Body, interface, struct, exception, enum, constants, typedef, new_service, old_service, new_singleton, old_singleton}
use Rattle.uno_model.specs.Kinds.{Kind}
use Rattle.uno_model.specs.Kinds as kd
use Rattle.uno_model.specs.Sound.{is_some_list}
use Rattle.registry_reading_model.specs.Changes.{Change}
use Rattle.registry_reading_model.specs.Kinds.{kind_of_text}
use Rattle.registry_reading_model.specs.Numbers.{number_of}
use Rattle.registry_reading_model.specs.Words.{on_some, where_, word_of, identifier_of, behind, entity_name_of, identifier_alone, way_of, access_of, flags_of}

abbrev pub changed_kind : Change → List ℕ → Option Kind
changed_kind c text = on_some (kind_of_text text) (λ k. Some (c.kind k))

-- `NAME TYPE`
unfoldable pub field_of : Change → List ℕ → Option Field
field_of c text = on_some (identifier_of text) (λ x. on_some (changed_kind c x.1) (λ k. Some (record { name = x.0; kind = k })))

-- one more behind the others
abbrev pub pushed : {X : Type 0} → List X → Option X → Option (List X)
pushed xs x = on_some x (λ y. Some (xs ++ y ∷ []))

-- what is made of the last of them
abbrev pub all_but_last : {X : Type 0} → X → List X → List X
all_but_last x [] = []
all_but_last x (y ∷ ys) = x ∷ all_but_last y ys

abbrev pub last_of : {X : Type 0} → X → List X → X
last_of x [] = x
last_of x (y ∷ ys) = last_of y ys

unfoldable pub last_changed : {X : Type 0} → (X → Option X) → List X → Option (List X)
last_changed f [] = None
last_changed f (x ∷ xs) = on_some (f (last_of x xs)) (λ y. Some (all_but_last x xs ++ y ∷ []))

-- ---- interfaces

unfoldable pub attribute_of : Change → List ℕ → Option Attribute
attribute_of c text =
    on_some (identifier_of text) (λ x. on_some (word_of x.1) (λ y. on_some (access_of y.0) (λ read_only. on_some (changed_kind c y.1) (λ k.
    Some (record { name = x.0; read_only = read_only; kind = k; get_raises = []; set_raises = [] })))))

unfoldable pub method_of : Change → List ℕ → Option Method
method_of c text = on_some (identifier_of text) (λ x. on_some (changed_kind c x.1) (λ k. Some (record { name = x.0; oneway = false; result_kind = k; params = []; raises = [] })))

unfoldable pub oneway_of : Change → List ℕ → Option Method
oneway_of c text = on_some (identifier_alone text) (λ name. Some (record { name = name; oneway = true; result_kind = c.kind kd.void; params = []; raises = [] }))

unfoldable pub param_of : Change → List ℕ → Option Param
param_of c text =
    on_some (word_of text) (λ x. on_some (way_of x.0) (λ way. on_some (identifier_of x.1) (λ y. on_some (changed_kind c y.1) (λ k.
    Some (record { way = way; name = y.0; kind = k })))))

-- a line under an attribute or a method, which goes into it where it may stand there
unfoldable pub get_raises_added : List ℕ → Member → Option Member
get_raises_added text (method m) = None
get_raises_added text (attribute a) =
    where_ (not (is_some_list a.set_raises)) (on_some (pushed a.get_raises (entity_name_of text)) (λ names.
    Some (attribute (record { name = a.name; read_only = a.read_only; kind = a.kind; get_raises = names; set_raises = a.set_raises }))))

unfoldable pub set_raises_added : List ℕ → Member → Option Member
set_raises_added text (method m) = None
set_raises_added text (attribute a) =
    on_some (pushed a.set_raises (entity_name_of text)) (λ names.
    Some (attribute (record { name = a.name; read_only = a.read_only; kind = a.kind; get_raises = a.get_raises; set_raises = names })))

unfoldable pub param_added : Change → List ℕ → Member → Option Member
param_added c text (attribute a) = None
param_added c text (method m) =
    where_ (not (is_some_list m.raises)) (on_some (pushed m.params (param_of c text)) (λ params.
    Some (method (record { name = m.name; oneway = m.oneway; result_kind = m.result_kind; params = params; raises = m.raises }))))

unfoldable pub raises_added : List ℕ → Member → Option Member
raises_added text (attribute a) = None
raises_added text (method m) =
    on_some (pushed m.raises (entity_name_of text)) (λ names.
    Some (method (record { name = m.name; oneway = m.oneway; result_kind = m.result_kind; params = m.params; raises = names })))

abbrev pub base_added : Bool → List Base → List Member → List ℕ → Option Body
base_added optional bases members text =
    where_ (not (is_some_list members)) (on_some (entity_name_of text) (λ name. Some (interface (bases ++ record { optional = optional; name = name } ∷ []) members)))

abbrev pub with_members : List Base → Option (List Member) → Option Body
with_members bases members = on_some members (λ ms. Some (interface bases ms))

-- a word, and what stands behind it
unfoldable pub interface_line : Change → List Base → List Member → List ℕ → List ℕ → Option Body
interface_line c bases members word text =
    if bytes_eq word (codes "base") then base_added false bases members text
    else (if bytes_eq word (codes "optional") then base_added true bases members text
    else (if bytes_eq word (codes "attribute") then with_members bases (pushed members (on_some (attribute_of c text) (λ a. Some (attribute a))))
    else (if bytes_eq word (codes "getraises") then with_members bases (last_changed (get_raises_added text) members)
    else (if bytes_eq word (codes "setraises") then with_members bases (last_changed (set_raises_added text) members)
    else (if bytes_eq word (codes "method") then with_members bases (pushed members (on_some (method_of c text) (λ m. Some (method m))))
    else (if bytes_eq word (codes "oneway") then with_members bases (pushed members (on_some (oneway_of c text) (λ m. Some (method m))))
    else (if bytes_eq word (codes "param") then with_members bases (last_changed (param_added c text) members)
    else (if bytes_eq word (codes "raises") then with_members bases (last_changed (raises_added text) members)
    else None))))))))

-- ---- enums and constants

unfoldable pub item_of : Change → List ℕ → Option Item
item_of c text = on_some (identifier_of text) (λ x. on_some (number_of x.1) (λ n. Some (record { name = x.0; number = c.item n })))

unfoldable pub constant_of : Change → List ℕ → Option Constant
constant_of c text =
    on_some (identifier_of text) (λ x. on_some (word_of x.1) (λ y. on_some (number_of y.0) (λ n. on_some (changed_kind c y.1) (λ k.
    Some (record { name = x.0; number = c.constant n; kind = k })))))

-- ---- services

unfoldable pub constructor_of : List ℕ → Option Constructor
constructor_of text = on_some (identifier_alone text) (λ name. Some (record { name = name; params = []; rest = None; raises = [] }))

-- nothing stands behind the parameters yet
abbrev pub is_open : Constructor → Bool
is_open k = is_none k.rest && not (is_some_list k.raises)

unfoldable pub given_added : Change → List ℕ → Constructor → Option Constructor
given_added c text k =
    where_ (is_open k) (on_some (pushed k.params (on_some (behind (codes "in ") text) (field_of c))) (λ params.
    Some (record { name = k.name; params = params; rest = k.rest; raises = k.raises })))

unfoldable pub rest_added : List ℕ → Constructor → Option Constructor
rest_added text k = where_ (is_open k) (on_some (identifier_alone text) (λ name. Some (record { name = k.name; params = k.params; rest = Some name; raises = k.raises })))

unfoldable pub raised_added : List ℕ → Constructor → Option Constructor
raised_added text k = on_some (pushed k.raises (entity_name_of text)) (λ names. Some (record { name = k.name; params = k.params; rest = k.rest; raises = names }))

unfoldable pub constructor_line : Change → List Constructor → List ℕ → List ℕ → Option (List Constructor)
constructor_line c constructors word text =
    if bytes_eq word (codes "constructor") then pushed constructors (constructor_of text)
    else (if bytes_eq word (codes "param") then last_changed (given_added c text) constructors
    else (if bytes_eq word (codes "rest") then last_changed (rest_added text) constructors
    else (if bytes_eq word (codes "raises") then last_changed (raised_added text) constructors
    else None)))

unfoldable pub property_of : Change → List ℕ → Option Part
property_of c text =
    on_some (identifier_of text) (λ x. on_some (word_of x.1) (λ y. on_some (flags_of y.0) (λ flags. on_some (changed_kind c y.1) (λ k. Some (property x.0 flags k)))))

unfoldable pub part_of : Change → List ℕ → List ℕ → Option Part
part_of c word text =
    if bytes_eq word (codes "interface") then on_some (entity_name_of text) (λ name. Some (face false name))
    else (if bytes_eq word (codes "optinterface") then on_some (entity_name_of text) (λ name. Some (face true name))
    else (if bytes_eq word (codes "service") then on_some (entity_name_of text) (λ name. Some (subservice false name))
    else (if bytes_eq word (codes "optservice") then on_some (entity_name_of text) (λ name. Some (subservice true name))
    else (if bytes_eq word (codes "property") then property_of c text
    else None))))

-- ---- bodies

abbrev pub behind_word : {X : Type 0} → List ℕ → (List ℕ → List ℕ → Option X) → Option X
behind_word line f = on_some (word_of line) (λ x. f x.0 x.1)

unfoldable pub fields_line : Change → List Field → List ℕ → Option (List Field)
fields_line c members line = pushed members (on_some (behind (codes "member ") line) (field_of c))

unfoldable pub body_line : Change → Body → List ℕ → Option Body
body_line c (interface bases members) line = behind_word line (interface_line c bases members)
body_line c (struct base members) line = on_some (fields_line c members line) (λ fields. Some (struct base fields))
body_line c (exception base members) line = on_some (fields_line c members line) (λ fields. Some (exception base fields))
body_line c (enum items) line = on_some (pushed items (on_some (behind (codes "value ") line) (item_of c))) (λ is. Some (enum is))
body_line c (constants cs) line = on_some (pushed cs (on_some (behind (codes "const ") line) (constant_of c))) (λ ks. Some (constants ks))
body_line c (new_service base constructors) line = on_some (behind_word line (constructor_line c constructors)) (λ ks. Some (new_service base ks))
body_line c (old_service parts) line = on_some (pushed parts (behind_word line (part_of c))) (λ ps. Some (old_service ps))
body_line c (typedef k) line = None
body_line c (new_singleton base) line = None
body_line c (old_singleton service) line = None
