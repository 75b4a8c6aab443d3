-- Entities as plain trees: what a registry says of each name (UNOIDL grammar, a declaration a record).
use Rattle.std.specs.Prelude.{ℕ, ℤ, Bool, List, Option}
use Rattle.uno_model.specs.Kinds.{Kind}
use Rattle.uno_model.specs.declared.way.Way.{Way}
use Rattle.uno_model.specs.declared.flags.Flags.{Flags}

-- a member of a struct or an exception, and a parameter
pub record Field : Type 0 where
  pub name : List ℕ
  pub kind : Kind

pub record Param : Type 0 where
  pub way : Way
  pub name : List ℕ
  pub kind : Kind

-- a base of an interface
pub record Base : Type 0 where
  pub optional : Bool
  pub name : List ℕ

-- what an interface declares
pub record Attribute : Type 0 where
  pub name : List ℕ
  pub read_only : Bool
  pub kind : Kind
  pub get_raises : List (List ℕ)
  pub set_raises : List (List ℕ)

pub record Method : Type 0 where
  pub name : List ℕ
  pub oneway : Bool
  pub result_kind : Kind
  pub params : List Param
  pub raises : List (List ℕ)

pub data Member : Type 0 where
  attribute : Attribute → Member
  method : Method → Member

-- a member of an enum, and a constant
pub record Item : Type 0 where
  pub name : List ℕ
  pub number : ℤ

pub record Constant : Type 0 where
  pub name : List ℕ
  pub number : ℤ
  pub kind : Kind

-- a constructor of a new-style service; the rest parameter takes all arguments that follow
pub record Constructor : Type 0 where
  pub name : List ℕ
  pub params : List Field
  pub rest : Option (List ℕ)
  pub raises : List (List ℕ)

-- what an old-style service has, some of it optional
pub data Part : Type 0 where
  face : Bool → List ℕ → Part
  subservice : Bool → List ℕ → Part
  property : List ℕ → Flags → Kind → Part

pub data Body : Type 0 where
  interface : List Base → List Member → Body
  struct : Option (List ℕ) → List Field → Body
  exception : Option (List ℕ) → List Field → Body
  enum : List Item → Body
  constants : List Constant → Body
  typedef : Kind → Body
  new_service : List ℕ → List Constructor → Body
  old_service : List Part → Body
  new_singleton : List ℕ → Body
  old_singleton : List ℕ → Body

pub record Entity : Type 0 where
  pub name : List ℕ
  pub published : Bool
  pub body : Body
