-- What the rules ask of types, by their classes alone.
use Rattle.std.specs.Prelude.{◌≡◌, ℤ, pos, negsuc, Bool, true, false, Option, None, Some}
use Rattle.registry_reading_model.specs.Changes.{Change}
use Rattle.registry_text_model.specs.EnumValues.{is_between, is_long}
use Rattle.uno_model.specs.Kinds.{Kind}
use Rattle.uno_model.specs.TypeClasses.{class_of}
use Rattle.uno_model.specs.declared.type_class.TypeClass.{TypeClass}
use Rattle.uno_model.specs.declared.type_class.TypeClass.TheVariants as class
use Rattle.idl_rules_model.specs.TypePlaces.{Standing, may_be_void, may_be_exception}

-- types are kept as others of their classes
abbrev pub KeepsClasses : Change → Type 0
KeepsClasses c = (k : Kind) → class_of (c.kind k) ≡ class_of k

abbrev pub is_void_class : TypeClass → Bool
is_void_class class.Void = true
is_void_class _ = false

abbrev pub is_any_class : TypeClass → Bool
is_any_class class.Any = true
is_any_class _ = false

-- a type of this class may stand there
abbrev pub class_may_stand : Standing → TypeClass → Bool
class_may_stand standing class.Void = may_be_void standing
class_may_stand standing class.Exception = may_be_exception standing
class_may_stand standing _ = true

-- a number is a value of the whole type of this class
abbrev pub is_in_class : TypeClass → ℤ → Bool
is_in_class class.Boolean n = is_between (pos 0) (pos 1) n
is_in_class class.Byte n = is_between (negsuc 127) (pos 127) n
is_in_class class.Short n = is_between (negsuc 32767) (pos 32767) n
is_in_class class.UnsignedShort n = is_between (pos 0) (pos 65535) n
is_in_class class.Long n = is_long n
is_in_class class.UnsignedLong n = is_between (pos 0) (pos 4294967295) n
is_in_class class.Hyper n = is_between (negsuc 9223372036854775807) (pos 9223372036854775807) n
is_in_class class.UnsignedHyper n = is_between (pos 0) (pos 18446744073709551615) n
is_in_class _ n = false

-- there is a value, and it is one of that type
abbrev pub has_value_in : TypeClass → Option ℤ → Bool
has_value_in k None = false
has_value_in k (Some n) = is_in_class k n
