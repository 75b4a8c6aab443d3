-- Values as plain trees.
use Rattle.std.specs.Prelude.{List, map, Option, None, Some}
use Rattle.uno_model.specs.Kinds.{Kind}
use Rattle.uno_model.specs.Values.{Ref, null, Plain, Plains, plains, void, char, boolean, byte, short, unsigned_short, long}
use Rattle.uno_model.specs.Values.{unsigned_long, hyper, unsigned_hyper, str, kind, any, enum, tuple, list, bytes, ref}
use Rattle.uno_entities.specs.TypeNames.{kind_of}
use Rattle.uno_values.specs.References.{ref_of}
use Rattle.uno_values.specs.declared.value.Value.{Value}
use Rattle.uno_values.specs.declared.value.AnyValue.{AnyValue}
use Rattle.uno_values.specs.declared.value.Value.TheOpen.{Value-F, AnyValue-F}
use Rattle.uno_values.specs.declared.value.Value.TheFolds.{fold-Value, fold-AnyValue}

-- one level, with the values inside already seen as their plain trees
abbrev pub plain_step : Value-F Plain (Kind × Plain) → Plain
plain_step Value-F.Void = void
plain_step (Value-F.Char n) = char n
plain_step (Value-F.Boolean b) = boolean b
plain_step (Value-F.Byte n) = byte n
plain_step (Value-F.Short n) = short n
plain_step (Value-F.UnsignedShort n) = unsigned_short n
plain_step (Value-F.Long n) = long n
plain_step (Value-F.UnsignedLong n) = unsigned_long n
plain_step (Value-F.Hyper n) = hyper n
plain_step (Value-F.UnsignedHyper n) = unsigned_hyper n
plain_step (Value-F.Str s) = str s
plain_step (Value-F.Kind k) = kind (kind_of k)
plain_step (Value-F.Any a) = any a.value.0 a.value.1
plain_step (Value-F.Enum name n) = enum name n
plain_step (Value-F.Tuple name vs) = tuple name (plains vs.items)
plain_step (Value-F.List k vs) = list (kind_of k) (plains vs.items)
plain_step (Value-F.Bytes b) = bytes b.items
plain_step (Value-F.Ref r) = ref (ref_of r)

abbrev pub any_step : AnyValue-F Plain (Kind × Plain) → Kind × Plain
any_step a = (kind_of a.kind, a.value)

-- a value, what an any holds, and the parts of a value, as plain trees
abbrev pub plain_of : Value → Plain
plain_of = fold-Value Plain (Kind × Plain) plain_step any_step

abbrev pub any_of : AnyValue → Kind × Plain
any_of = fold-AnyValue Plain (Kind × Plain) plain_step any_step

abbrev pub plains_of : List Value → Plains
plains_of vs = plains (map plain_of vs)

-- what an any holds, with its type
abbrev pub any_in : Plain → Option (Kind × Plain)
any_in (any k x) = Some (k, x)
any_in x = None

-- the reference that a value is, null where it is none
abbrev pub reference_in : Plain → Ref
reference_in (ref r) = r
reference_in x = null
