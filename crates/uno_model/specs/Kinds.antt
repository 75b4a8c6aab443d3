-- Types as plain trees, and their names (Developer's Guide, Professional UNO, 'Using the types of UNOIDL').
use Rattle.std.specs.Prelude.{ℕ, suc, ◌≤◌, List, ◌++◌, length, codes, Option, None, Some}

-- the simple types, the entities that are types, and sequences
pub data Kind : Type 0 where
  void : Kind
  char : Kind
  boolean : Kind
  byte : Kind
  short : Kind
  unsigned_short : Kind
  long : Kind
  unsigned_long : Kind
  hyper : Kind
  unsigned_hyper : Kind
  str : Kind
  kind : Kind
  any : Kind
  enum : List ℕ → Kind
  struct : List ℕ → Kind
  exception : List ℕ → Kind
  interface : List ℕ → Kind
  sequence : Kind → Kind

-- the name of a type: its words, the entity's name, or `[]` and the name of the elements' type
abbrev pub name_of : Kind → List ℕ
name_of void = codes "void"
name_of char = codes "char"
name_of boolean = codes "boolean"
name_of byte = codes "byte"
name_of short = codes "short"
name_of unsigned_short = codes "unsigned short"
name_of long = codes "long"
name_of unsigned_long = codes "unsigned long"
name_of hyper = codes "hyper"
name_of unsigned_hyper = codes "unsigned hyper"
name_of str = codes "string"
name_of kind = codes "type"
name_of any = codes "any"
name_of (enum name) = name
name_of (struct name) = name
name_of (exception name) = name
name_of (interface name) = name
name_of (sequence k) = codes "[]" ++ name_of k

-- the name of the interface that a type is
abbrev pub interface_of : Kind → Option (List ℕ)
interface_of (interface name) = Some name
interface_of _ = None

-- the name of the exception that a type is
abbrev pub exception_of : Kind → Option (List ℕ)
exception_of (exception name) = Some name
exception_of _ = None

-- how many sequences stand round the innermost type
abbrev pub nesting : Kind → ℕ
nesting (sequence k) = suc (nesting k)
nesting _ = 0

-- a name has at most 4,096 bytes and at most 64 `[]`
pub record IsNamable (k : Kind) : Type 0 where
  pub bytes : length (name_of k) ≤ 4096
  pub sequences : nesting k ≤ 64
