-- The class of a number, and the type of a class and a name.
use Rattle.std.specs.Prelude.{ℕ, ◌==◌, Bool, true, false, List, [], ◌∷◌, Option, None, Some, if◌then◌else◌}
use Rattle.uno_model.specs.Entities.{Entity}
use Rattle.uno_model.specs.Kinds.{Kind}
use Rattle.uno_model.specs.Kinds as kd
use Rattle.uno_model.specs.NamedTypes.{type_of_text}
use Rattle.uno_model.specs.TypeClasses.{class_code, class_of}
use Rattle.uno_model.specs.declared.type_class.TypeClass.{TypeClass}
use Rattle.uno_model.specs.declared.type_class.TypeClass.TheVariants as class

-- the classes that are accepted; float, double and typedef are not among them
abbrev pub classes : List TypeClass
classes =
    class.Void ∷ (class.Char ∷ (class.Boolean ∷ (class.Byte ∷ (class.Short ∷ (class.UnsignedShort ∷ (class.Long ∷ (class.UnsignedLong ∷ (class.Hyper
    ∷ (class.UnsignedHyper ∷ (class.Str ∷ (class.Kind ∷ (class.Any ∷ (class.Enum ∷ (class.Struct ∷ (class.Exception ∷ (class.Sequence ∷ (class.Interface ∷ [])))))))))))))))))

-- the class of these with that number
unfoldable pub class_among : List TypeClass → ℕ → Option TypeClass
class_among [] number = None
class_among (c ∷ cs) number = if number == class_code c then Some c else class_among cs number

-- the class of a number
abbrev pub class_numbered : ℕ → Option TypeClass
class_numbered number = class_among classes number

-- the simple type of a class
abbrev pub simple_kind : TypeClass → Option Kind
simple_kind class.Void = Some kd.void
simple_kind class.Char = Some kd.char
simple_kind class.Boolean = Some kd.boolean
simple_kind class.Byte = Some kd.byte
simple_kind class.Short = Some kd.short
simple_kind class.UnsignedShort = Some kd.unsigned_short
simple_kind class.Long = Some kd.long
simple_kind class.UnsignedLong = Some kd.unsigned_long
simple_kind class.Hyper = Some kd.hyper
simple_kind class.UnsignedHyper = Some kd.unsigned_hyper
simple_kind class.Str = Some kd.str
simple_kind class.Kind = Some kd.kind
simple_kind class.Any = Some kd.any
simple_kind class.Enum = None
simple_kind class.Struct = None
simple_kind class.Exception = None
simple_kind class.Sequence = None
simple_kind class.Interface = None

-- whether a type is simple: it has no name on the wire
abbrev pub is_simple : Kind → Bool
is_simple (kd.enum _) = false
is_simple (kd.struct _) = false
is_simple (kd.exception _) = false
is_simple (kd.interface _) = false
is_simple (kd.sequence _) = false
is_simple _ = true

-- whether a type is that of bytes, whose sequences are written as they are
abbrev pub is_byte : Kind → Bool
is_byte kd.byte = true
is_byte _ = false

-- whether a type is any
abbrev pub is_any : Kind → Bool
is_any kd.any = true
is_any _ = false

-- a type, where it is of that class
abbrev pub of_class : TypeClass → Option Kind → Option Kind
of_class c None = None
of_class c (Some k) = if class_code (class_of k) == class_code c then Some k else None

-- the type of the registry of that class and name
unfoldable pub kind_named : List Entity → TypeClass → List ℕ → Option Kind
kind_named reg c name = of_class c (type_of_text reg name)
