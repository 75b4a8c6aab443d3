-- The classes of types: a number each (com.sun.star.uno.TypeClass), and the class of a type.
use Rattle.std.specs.Prelude.{ℕ}
use Rattle.uno_model.specs.Kinds.{Kind}
use Rattle.uno_model.specs.Kinds as kd
use Rattle.uno_model.specs.declared.type_class.TypeClass.{TypeClass}
use Rattle.uno_model.specs.declared.type_class.TypeClass.TheVariants as class

-- the number of a class
abbrev pub class_code : TypeClass → ℕ
class_code class.Void = 0
class_code class.Char = 1
class_code class.Boolean = 2
class_code class.Byte = 3
class_code class.Short = 4
class_code class.UnsignedShort = 5
class_code class.Long = 6
class_code class.UnsignedLong = 7
class_code class.Hyper = 8
class_code class.UnsignedHyper = 9
class_code class.Str = 12
class_code class.Kind = 13
class_code class.Any = 14
class_code class.Enum = 15
class_code class.Struct = 17
class_code class.Exception = 19
class_code class.Sequence = 20
class_code class.Interface = 22

-- the class of a type
abbrev pub class_of : Kind → TypeClass
class_of kd.void = class.Void
class_of kd.char = class.Char
class_of kd.boolean = class.Boolean
class_of kd.byte = class.Byte
class_of kd.short = class.Short
class_of kd.unsigned_short = class.UnsignedShort
class_of kd.long = class.Long
class_of kd.unsigned_long = class.UnsignedLong
class_of kd.hyper = class.Hyper
class_of kd.unsigned_hyper = class.UnsignedHyper
class_of kd.str = class.Str
class_of kd.kind = class.Kind
class_of kd.any = class.Any
class_of (kd.enum _) = class.Enum
class_of (kd.struct _) = class.Struct
class_of (kd.exception _) = class.Exception
class_of (kd.interface _) = class.Interface
class_of (kd.sequence _) = class.Sequence
