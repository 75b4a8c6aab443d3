-- The seventh rule: a constant is of type boolean, byte or one of the six other whole types, and its value is in the range of that.
use Rattle.std.specs.Prelude.{ℤ, pos, negsuc, Bool, true, false}
use Rattle.std.specs.List.{list_all}
use Rattle.uno_model.specs.Entities.{Entity, Body, constants}
use Rattle.uno_model.specs.Kinds.{Kind}
use Rattle.uno_model.specs.Kinds as kd
use Rattle.registry_text_model.specs.EnumValues.{is_between, is_long}

abbrev pub is_in_range : Kind → ℤ → Bool
is_in_range kd.boolean n = is_between (pos 0) (pos 1) n
is_in_range kd.byte n = is_between (negsuc 127) (pos 127) n
is_in_range kd.short n = is_between (negsuc 32767) (pos 32767) n
is_in_range kd.unsigned_short n = is_between (pos 0) (pos 65535) n
is_in_range kd.long n = is_long n
is_in_range kd.unsigned_long n = is_between (pos 0) (pos 4294967295) n
is_in_range kd.hyper n = is_between (negsuc 9223372036854775807) (pos 9223372036854775807) n
is_in_range kd.unsigned_hyper n = is_between (pos 0) (pos 18446744073709551615) n
is_in_range _ n = false

abbrev pub body_is_in_range : Body → Bool
body_is_in_range (constants cs) = list_all (λ c. is_in_range c.kind c.number) cs
body_is_in_range _ = true

unfoldable pub constants_are_in_range : Entity → Bool
constants_are_in_range e = body_is_in_range e.body
