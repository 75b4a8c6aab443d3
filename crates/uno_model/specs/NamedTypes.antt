-- Texts that are the names of types.
use Rattle.std.specs.Prelude.{◌≡◌, ℕ, zero, suc, ◌≤◌, nat_le, List, length, take, drop, Option, None, Some, IsTrue, codes, if◌then◌else◌}
use Rattle.std.specs.Str.{bytes_eq}
use Rattle.uno_model.specs.Entities.{Entity, Body}
use Rattle.uno_model.specs.Entities as plain
use Rattle.uno_model.specs.Kinds.{Kind, name_of, nesting}
use Rattle.uno_model.specs.Kinds as kd
use Rattle.uno_model.specs.Registry.{find_entity}
use Rattle.uno_model.specs.Sound.{is_storable}
use Rattle.uno_model.specs.Types.{is_formed, is_type}

-- the text is the name of this type of the registry
pub record IsNamed (reg : List Entity) (text : List ℕ) (k : Kind) : Type 0 where
  pub named : name_of k ≡ text
  pub is : IsTrue (is_type reg k)

-- the same, but for the limits on names, and with at most so many `[]`
pub record IsNamedWithin (reg : List Entity) (text : List ℕ) (levels : ℕ) (k : Kind) : Type 0 where
  pub named : name_of k ≡ text
  pub formed : IsTrue (is_formed reg k)
  pub within : nesting k ≤ levels

-- the type that an entity is
abbrev pub kind_of_body : List ℕ → Body → Option Kind
kind_of_body name (plain.interface bases members) = Some (kd.interface name)
kind_of_body name (plain.struct base members) = Some (kd.struct name)
kind_of_body name (plain.exception base members) = Some (kd.exception name)
kind_of_body name (plain.enum items) = Some (kd.enum name)
kind_of_body name _ = None

abbrev pub kind_of_entity : List ℕ → Option Entity → Option Kind
kind_of_entity name None = None
kind_of_entity name (Some e) = kind_of_body name e.body

-- the simple type of this name
unfoldable pub simple_of : List ℕ → Option Kind
simple_of text =
    if bytes_eq text (codes "void") then Some kd.void
    else (if bytes_eq text (codes "char") then Some kd.char
    else (if bytes_eq text (codes "boolean") then Some kd.boolean
    else (if bytes_eq text (codes "byte") then Some kd.byte
    else (if bytes_eq text (codes "short") then Some kd.short
    else (if bytes_eq text (codes "unsigned short") then Some kd.unsigned_short
    else (if bytes_eq text (codes "long") then Some kd.long
    else (if bytes_eq text (codes "unsigned long") then Some kd.unsigned_long
    else (if bytes_eq text (codes "hyper") then Some kd.hyper
    else (if bytes_eq text (codes "unsigned hyper") then Some kd.unsigned_hyper
    else (if bytes_eq text (codes "string") then Some kd.str
    else (if bytes_eq text (codes "type") then Some kd.kind
    else (if bytes_eq text (codes "any") then Some kd.any
    else None))))))))))))

-- the type of this name that is no sequence
abbrev pub word_of : List Entity → List ℕ → Option Kind
word_of reg text = or_entity (simple_of text)
  where
    or_entity : Option Kind → Option Kind
    or_entity (Some k) = Some k
    or_entity None = kind_of_entity text (find_entity text reg)

-- the type of this name, with at most so many `[]`
unfoldable pub kind_within : ℕ → List Entity → List ℕ → Option Kind
kind_within zero reg text = if bytes_eq (take 2 text) (codes "[]") then None else word_of reg text
kind_within (suc levels) reg text = if bytes_eq (take 2 text) (codes "[]") then sequence_of (kind_within levels reg (drop 2 text)) else word_of reg text
  where
    sequence_of : Option Kind → Option Kind
    sequence_of None = None
    sequence_of (Some k) = if is_storable k then Some (kd.sequence k) else None

-- the type of the registry of this name
unfoldable pub type_of_text : List Entity → List ℕ → Option Kind
type_of_text reg text = if nat_le (length text) 4096 then kind_within 64 reg text else None
