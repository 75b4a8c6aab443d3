-- Which tree of UNOIDL writes which entities as canonical UNOIDL does: its definitions with their modules, names, bases, members, types and numbers,
-- wherever these stand in a file.
use Rattle.std.specs.Prelude.{◌≡◌, ℕ, suc, ℤ, pos, negsuc, Bool, true, false, List, [], ◌∷◌, ◌++◌, map, IsTrue, Option, None, Some, if◌then◌else◌}
use Rattle.std.specs.Option.{option_to_list}
use Rattle.uno_model.specs.Entities.{Entity, Body}
use Rattle.uno_model.specs.Entities as uno
use Rattle.uno_model.specs.Kinds.{Kind}
use Rattle.uno_model.specs.Kinds as kd
use Rattle.uno_model.specs.Names.{parts_of}
use Rattle.uno_model.specs.Registry.{at_most_one}
use Rattle.uno_model.specs.Sound.{is_some_list}
use Rattle.uno_model.specs.declared.flags.Flags.{Flags}
use Rattle.registry_text_model.specs.Canonical.{is_only_base, is_implicit_alone}
use Rattle.registry_text_model.specs.Lines.{written}
use Rattle.idl_model.specs.Trees.{Id, Path, Simple, WrittenType, simple, named, sequence_of, no_arguments, argument, Expr, number, signed, negative}
use Rattle.idl_model.specs.Trees.{Flag, Declaration, Decl, Def, in_module, declared, no_defs, def, Tree}
use Rattle.idl_model.specs.Trees as tree

-- as many of the one as of the other, and each belongs to that at its place
abbrev pub Each : {X Y : Type 0} → (X → Y → Type 0) → List X → List Y → Type 0
Each R [] [] = Unit {0}
Each R [] (y ∷ ys) = ⊥
Each R (x ∷ xs) [] = ⊥
Each R (x ∷ xs) (y ∷ ys) = R x y × Each R xs ys

-- ---- names, types and numbers

-- a path from the outermost module on, of the identifiers of a name
pub record WritesName (path : Path) (name : List ℕ) : Type 0 where
  pub absolute : path.absolute ≡ true
  pub parts : path.parts ≡ parts_of name

-- the word of a simple type
abbrev pub simple_of : Kind → Option Simple
simple_of kd.void = Some tree.void
simple_of kd.char = Some tree.char
simple_of kd.boolean = Some tree.boolean
simple_of kd.byte = Some tree.byte
simple_of kd.short = Some tree.short
simple_of kd.unsigned_short = Some tree.unsigned_short
simple_of kd.long = Some tree.long
simple_of kd.unsigned_long = Some tree.unsigned_long
simple_of kd.hyper = Some tree.hyper
simple_of kd.unsigned_hyper = Some tree.unsigned_hyper
simple_of kd.str = Some tree.str
simple_of kd.kind = Some tree.kind
simple_of kd.any = Some tree.any
simple_of _ = None

-- the name of an entity that is a type
abbrev pub name_in : Kind → Option (List ℕ)
name_in (kd.enum name) = Some name
name_in (kd.struct name) = Some name
name_in (kd.exception name) = Some name
name_in (kd.interface name) = Some name
name_in _ = None

unfoldable pub WritesType : WrittenType → Kind → Type 0
WritesType (simple place s) k = simple_of k ≡ Some s
WritesType (named path no_arguments) k = (name : List ℕ) × (name_in k ≡ Some name) × WritesName path name
WritesType (named path (argument t ts)) k = ⊥
WritesType (sequence_of place t) k = (element : Kind) × (k ≡ kd.sequence element) × WritesType t element

-- a negative number is `-` before its amount
abbrev pub expression_of : ℤ → Expr
expression_of (pos n) = number n
expression_of (negsuc n) = signed (negative ∷ []) (number (suc n))

-- what may be raised, where something may
abbrev pub WritesRaised : Option (List Path) → List (List ℕ) → Type 0
WritesRaised None names = names ≡ []
WritesRaised (Some paths) names = IsTrue (is_some_list names) × Each WritesName paths names

-- ---- interfaces

abbrev pub access_flags : Bool → List Flag
access_flags true = tree.readonly_flag ∷ []
access_flags false = []

pub record WritesAttribute (t : tree.Attribute) (a : uno.Attribute) : Type 0 where
  pub flags : t.flags ≡ access_flags a.read_only
  pub type : WritesType t.type a.kind
  pub name : t.name.name ≡ a.name
  pub get : WritesRaised t.get a.get_raises
  pub set : WritesRaised t.set a.set_raises

pub record WritesParameter (t : tree.Parameter) (p : uno.Param) : Type 0 where
  pub way : t.way ≡ p.way
  pub type : WritesType t.type p.kind
  pub name : t.name.name ≡ p.name

pub record WritesMethod (t : tree.Method) (m : uno.Method) : Type 0 where
  pub oneway : t.oneway ≡ m.oneway
  pub result : WritesType t.result_type m.result_kind
  pub name : t.name.name ≡ m.name
  pub parameters : Each WritesParameter t.parameters m.params
  pub raises : Each WritesName t.raises m.raises

abbrev pub WritesMember : tree.InterfaceMember → uno.Member → Type 0
WritesMember (tree.base_member optional path) m = ⊥
WritesMember (tree.attribute t) m = (a : uno.Attribute) × (m ≡ uno.attribute a) × WritesAttribute t a
WritesMember (tree.method t) m = (o : uno.Method) × (m ≡ uno.method o) × WritesMethod t o

-- a base as a member
abbrev pub WritesBase : tree.InterfaceMember → uno.Base → Type 0
WritesBase (tree.base_member optional path) b = (optional ≡ b.optional) × WritesName path b.name
WritesBase _ b = ⊥

-- a base that is not optional and is the only one stands behind `:`, and others are members before those that are declared
abbrev pub bases_behind_colon : List uno.Base → List (List ℕ)
bases_behind_colon bases = if is_only_base bases then map (λ b. b.name) bases else []

abbrev pub bases_among_members : List uno.Base → List uno.Base
bases_among_members bases = if is_only_base bases then [] else bases

pub record WritesInterface (base : Option Path) (members : List tree.InterfaceMember) (bases : List uno.Base) (own : List uno.Member) : Type 0 where
  pub front : List tree.InterfaceMember
  pub behind : List tree.InterfaceMember
  pub split : members ≡ front ++ behind
  pub colon : Each WritesName (option_to_list base) (bases_behind_colon bases)
  pub inside : Each WritesBase front (bases_among_members bases)
  pub declares : Each WritesMember behind own

-- ---- the other declarations

-- a type with one name
pub record WritesField (t : tree.Fields) (f : uno.Field) : Type 0 where
  pub id : Id
  pub names : t.names ≡ id ∷ []
  pub type : WritesType t.type f.kind
  pub name : id.name ≡ f.name

-- the base of a struct or an exception
abbrev pub WritesBaseOf : Option Path → Option (List ℕ) → Type 0
WritesBaseOf base of = Each WritesName (option_to_list base) (at_most_one of)

pub record WritesItem (t : tree.Item) (i : uno.Item) : Type 0 where
  pub name : t.name.name ≡ i.name
  pub value : t.value ≡ Some (expression_of i.number)

pub record WritesConstant (t : tree.Constant) (c : uno.Constant) : Type 0 where
  pub type : WritesType t.type c.kind
  pub name : t.name.name ≡ c.name
  pub value : t.value ≡ expression_of c.number

pub record WritesGiven (t : tree.ConstructorParameter) (f : uno.Field) : Type 0 where
  pub type : WritesType t.type f.kind
  pub rest : t.rest ≡ false
  pub name : t.name.name ≡ f.name

pub record WritesRest (t : tree.ConstructorParameter) (rest_name : List ℕ) : Type 0 where
  pub type : WritesType t.type kd.any
  pub rest : t.rest ≡ true
  pub name : t.name.name ≡ rest_name

-- the rest parameter is the last
pub record WritesConstructor (t : tree.Constructor) (c : uno.Constructor) : Type 0 where
  pub name : t.name.name ≡ c.name
  pub front : List tree.ConstructorParameter
  pub behind : List tree.ConstructorParameter
  pub split : t.parameters ≡ front ++ behind
  pub given : Each WritesGiven front c.params
  pub rest : Each WritesRest behind (at_most_one c.rest)
  pub raises : Each WritesName t.raises c.raises

-- the implicit constructor alone is not written
abbrev pub constructors_written : List uno.Constructor → List uno.Constructor
constructors_written cs = if is_implicit_alone cs then [] else cs

abbrev pub flag_if : Bool → Flag → List Flag
flag_if true flag = flag ∷ []
flag_if false flag = []

-- the flags of a property in the order of the grammar
unfoldable pub property_flags : Flags → List Flag
property_flags f =
    flag_if f.bound tree.bound_flag ++ (flag_if f.constrained tree.constrained_flag ++ (flag_if f.maybeambiguous tree.maybeambiguous_flag
    ++ (flag_if f.maybedefault tree.maybedefault_flag ++ (flag_if f.maybevoid tree.maybevoid_flag ++ (flag_if f.optional tree.optional_flag
    ++ (flag_if f.readonly tree.readonly_flag ++ (flag_if f.removable tree.removable_flag ++ flag_if f.transient tree.transient_flag)))))))

pub record WritesProperty (t : tree.Property) (property_name : List ℕ) (of : Flags) (k : Kind) : Type 0 where
  pub flags : t.flags ≡ property_flags of
  pub type : WritesType t.type k
  pub name : t.name.name ≡ property_name

abbrev pub WritesPart : tree.ServiceMember → uno.Part → Type 0
WritesPart (tree.face optional path) p = (name : List ℕ) × (p ≡ uno.face optional name) × WritesName path name
WritesPart (tree.subservice optional path) p = (name : List ℕ) × (p ≡ uno.subservice optional name) × WritesName path name
WritesPart (tree.property t) p = (name : List ℕ) × (flags : Flags) × (k : Kind) × (p ≡ uno.property name flags k) × WritesProperty t name flags k

unfoldable pub WritesBody : Declaration → Body → Type 0
WritesBody tree.forward body = ⊥
WritesBody (tree.interface base members) body =
    (bases : List uno.Base) × (own : List uno.Member) × (body ≡ uno.interface bases own) × WritesInterface base members bases own
WritesBody (tree.struct base members) body =
    (of : Option (List ℕ)) × (fields : List uno.Field) × (body ≡ uno.struct of fields) × WritesBaseOf base of × Each WritesField members fields
WritesBody (tree.exception base members) body =
    (of : Option (List ℕ)) × (fields : List uno.Field) × (body ≡ uno.exception of fields) × WritesBaseOf base of × Each WritesField members fields
WritesBody (tree.enum ts) body = (items : List uno.Item) × (body ≡ uno.enum items) × Each WritesItem ts items
WritesBody (tree.constants ts) body = (cs : List uno.Constant) × (body ≡ uno.constants cs) × Each WritesConstant ts cs
WritesBody (tree.typedef t) body = (k : Kind) × (body ≡ uno.typedef k) × WritesType t k
WritesBody (tree.new_service path ts) body =
    (base : List ℕ) × (cs : List uno.Constructor) × (body ≡ uno.new_service base cs) × WritesName path base
    × Each WritesConstructor ts (constructors_written cs)
WritesBody (tree.old_service ts) body = (parts : List uno.Part) × (body ≡ uno.old_service parts) × Each WritesPart ts parts
WritesBody (tree.new_singleton path) body = (base : List ℕ) × (body ≡ uno.new_singleton base) × WritesName path base
WritesBody (tree.old_singleton path) body = (service : List ℕ) × (body ≡ uno.old_singleton service) × WritesName path service

-- ---- entities

-- the definition of an entity under the identifiers of its name: all but the last are modules, one in the other
unfoldable pub WritesUnder : List (List ℕ) → Def → Entity → Type 0
WritesUnder [] d e = ⊥
WritesUnder (id ∷ []) d e = (decl : Decl) × (d ≡ declared e.published decl) × (decl.name.name ≡ id) × WritesBody decl.body e.body
WritesUnder (m ∷ (n ∷ ns)) d e = (name : Id) × (inner : Def) × (d ≡ in_module name (def inner no_defs)) × (name.name ≡ m) × WritesUnder (n ∷ ns) inner e

abbrev pub WritesEntity : Def → Entity → Type 0
WritesEntity d e = WritesUnder (parts_of e.name) d e

-- a definition for each entity that is not built in, in the order of the registry
unfoldable pub WritesRegistry : Tree → List Entity → Type 0
WritesRegistry ds reg = Each WritesEntity ds (written reg)
