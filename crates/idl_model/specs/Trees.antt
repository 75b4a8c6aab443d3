-- The tree of a UNOIDL file: a node for each rule of the grammar that can be chosen or repeated, of any depth (UNOIDL grammar).
use Rattle.std.specs.Prelude.{ℕ, Bool, List, [], ◌∷◌, Option}
use Rattle.idl_model.specs.Places.{Place}
use Rattle.uno_model.specs.declared.way.Way.{Way}

-- ---- names

-- a name that is declared, and where it stands
pub record Id : Type 0 where
  pub name : List ℕ
  pub place : Place

-- a name that is used: its identifiers, from the outermost module where `::` stands before them; its place is that of its first token, which may be the `::`
pub record Path : Type 0 where
  pub place : Place
  pub absolute : Bool
  pub parts : List (List ℕ)

-- ---- types

-- the simple types by their words
pub data Simple : Type 0 where
  void : Simple
  char : Simple
  boolean : Simple
  byte : Simple
  short : Simple
  unsigned_short : Simple
  long : Simple
  unsigned_long : Simple
  hyper : Simple
  unsigned_hyper : Simple
  float : Simple
  double : Simple
  str : Simple
  kind : Simple
  any : Simple

-- a type as it is written, with the place of its first token; the grammar of today gives no name arguments, which types with parameters have
mutual
  pub data WrittenType : Type 0 where
    simple : Place → Simple → WrittenType
    named : Path → Arguments → WrittenType
    sequence_of : Place → WrittenType → WrittenType

  pub data Arguments : Type 0 where
    no_arguments : Arguments
    argument : WrittenType → Arguments → Arguments

-- ---- expressions

-- the operators between operands, from the weakest to the strongest: `|`, `^`, `&`, shifts, `+` and `-`, `*`, `/` and `%`
pub data Operator : Type 0 where
  bit_or : Operator
  bit_xor : Operator
  bit_and : Operator
  shift_left : Operator
  shift_right : Operator
  plus : Operator
  minus : Operator
  times : Operator
  divided_by : Operator
  remainder : Operator

-- the levels of the operators between operands, the weakest is 0
abbrev pub strength : Operator → ℕ
strength bit_or = 0
strength bit_xor = 1
strength bit_and = 2
strength shift_left = 3
strength shift_right = 3
strength plus = 4
strength minus = 4
strength times = 5
strength divided_by = 5
strength remainder = 5

-- the operators before an operand: `+`, `-`, `~`
pub data Sign : Type 0 where
  positive : Sign
  negative : Sign
  complement : Sign

-- `signed` has all signs before an operand, as they are written; `chain` has an operand and all others of one level behind it, from left to right
mutual
  pub data Expr : Type 0 where
    number : ℕ → Expr
    truth : Bool → Expr
    constant : Path → Expr
    parentheses : Expr → Expr
    signed : List Sign → Expr → Expr
    chain : Expr → Operands → Expr

  pub data Operands : Type 0 where
    no_operands : Operands
    operand : Operator → Expr → Operands → Operands

-- a list of operators and operands as what stands in a chain
abbrev pub operands : List (Operator × Expr) → Operands
operands [] = no_operands
operands (x ∷ xs) = operand x.0 x.1 (operands xs)

-- ---- what stands in declarations

-- members of a struct or an exception: one type, and a name for each
pub record Fields : Type 0 where
  pub type : WrittenType
  pub names : List Id

pub record Item : Type 0 where
  pub name : Id
  pub value : Option Expr

pub record Constant : Type 0 where
  pub type : WrittenType
  pub name : Id
  pub value : Expr

-- a flag beside `attribute` or `property` by its word; an attribute has `bound` and `readonly` alone
pub data Flag : Type 0 where
  bound_flag : Flag
  constrained_flag : Flag
  maybeambiguous_flag : Flag
  maybedefault_flag : Flag
  maybevoid_flag : Flag
  optional_flag : Flag
  readonly_flag : Flag
  removable_flag : Flag
  transient_flag : Flag

-- an attribute, with its flags as they are written, but for the word `attribute`; what its `get` and its `set` raise, each where it is written
pub record Attribute : Type 0 where
  pub flags : List Flag
  pub type : WrittenType
  pub name : Id
  pub get : Option (List Path)
  pub set : Option (List Path)

pub record Parameter : Type 0 where
  pub way : Way
  pub type : WrittenType
  pub name : Id

-- a method; without `raises` it raises nothing
pub record Method : Type 0 where
  pub oneway : Bool
  pub result_type : WrittenType
  pub name : Id
  pub parameters : List Parameter
  pub raises : List Path

-- a member of an interface; a base may be optional
pub data InterfaceMember : Type 0 where
  base_member : Bool → Path → InterfaceMember
  attribute : Attribute → InterfaceMember
  method : Method → InterfaceMember

-- a parameter of a constructor; `rest` where `...` stands behind its type
pub record ConstructorParameter : Type 0 where
  pub type : WrittenType
  pub rest : Bool
  pub name : Id

pub record Constructor : Type 0 where
  pub name : Id
  pub parameters : List ConstructorParameter
  pub raises : List Path

-- the flags as they are written, but for the word `property`
pub record Property : Type 0 where
  pub flags : List Flag
  pub type : WrittenType
  pub name : Id

-- a member of a service of the old form; an interface and a service may be optional
pub data ServiceMember : Type 0 where
  face : Bool → Path → ServiceMember
  subservice : Bool → Path → ServiceMember
  property : Property → ServiceMember

-- ---- declarations

-- what is declared under a name; `forward` is `interface ID ;`
pub data Declaration : Type 0 where
  forward : Declaration
  interface : Option Path → List InterfaceMember → Declaration
  struct : Option Path → List Fields → Declaration
  exception : Option Path → List Fields → Declaration
  enum : List Item → Declaration
  constants : List Constant → Declaration
  typedef : WrittenType → Declaration
  new_service : Path → List Constructor → Declaration
  old_service : List ServiceMember → Declaration
  new_singleton : Path → Declaration
  old_singleton : Path → Declaration

pub record Decl : Type 0 where
  pub name : Id
  pub body : Declaration

-- a module, or a declaration, published or not
mutual
  pub data Def : Type 0 where
    in_module : Id → Defs → Def
    declared : Bool → Decl → Def

  pub data Defs : Type 0 where
    no_defs : Defs
    def : Def → Defs → Defs

-- a list of definitions as what stands in a module, and back
abbrev pub defs : List Def → Defs
defs [] = no_defs
defs (d ∷ ds) = def d (defs ds)

unfoldable pub listed : Defs → List Def
listed no_defs = []
listed (def d ds) = d ∷ listed ds

abbrev pub Tree : Type 0
Tree = List Def
