-- The plain tree of a type's name.
use Rattle.std.specs.Prelude.{◌≡◌, ℕ, List, codes}
use Rattle.uno_model.specs.Kinds.{Kind, name_of}
use Rattle.uno_model.specs.Kinds as kd
use Rattle.uno_model.specs.TypeClasses.{class_of}
use Rattle.uno_model.specs.declared.type_class.TypeClass.{TypeClass}
use Rattle.uno_entities.specs.declared.type_name.TypeName.{TypeName}
use Rattle.uno_entities.specs.declared.type_name.TypeName.TheOpen.{TypeName-F}
use Rattle.uno_entities.specs.declared.type_name.TypeName.TheFolds.{fold-TypeName}

-- one level, with the type inside already seen as its plain tree
abbrev pub kind_step : TypeName-F Kind → Kind
kind_step TypeName-F.Void = kd.void
kind_step TypeName-F.Char = kd.char
kind_step TypeName-F.Boolean = kd.boolean
kind_step TypeName-F.Byte = kd.byte
kind_step TypeName-F.Short = kd.short
kind_step TypeName-F.UnsignedShort = kd.unsigned_short
kind_step TypeName-F.Long = kd.long
kind_step TypeName-F.UnsignedLong = kd.unsigned_long
kind_step TypeName-F.Hyper = kd.hyper
kind_step TypeName-F.UnsignedHyper = kd.unsigned_hyper
kind_step TypeName-F.Str = kd.str
kind_step TypeName-F.Kind = kd.kind
kind_step TypeName-F.Any = kd.any
kind_step (TypeName-F.Enum name) = kd.enum name
kind_step (TypeName-F.Struct name) = kd.struct name
kind_step (TypeName-F.Exception name) = kd.exception name
kind_step (TypeName-F.Interface name) = kd.interface name
kind_step (TypeName-F.Sequence inner) = kd.sequence inner.value

-- the type, as a plain tree
abbrev pub kind_of : TypeName → Kind
kind_of = fold-TypeName Kind kind_step

-- the front of a type's name: the brackets of a sequence, and else the whole name
abbrev pub front_of : Kind → List ℕ
front_of (kd.sequence k) = codes "[]"
front_of k = name_of k

-- the type below all sequences
abbrev pub innermost : Kind → Kind
innermost (kd.sequence k) = innermost k
innermost k = k

-- a type of that class, whose name has that front
abbrev pub IsNamed : TypeClass → List ℕ → Kind → Type 0
IsNamed class front k = (class_of k ≡ class) × (front_of k ≡ front)
