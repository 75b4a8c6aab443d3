-- Types as plain trees.
use Rattle.idl_model.specs.Places.{Place}
use Rattle.idl_model.specs.Trees as plain
use Rattle.idl_trees.specs.Names.{place_of, path_of}
use Rattle.idl_trees.specs.declared.written_type.Simple.{Simple}
use Rattle.idl_trees.specs.declared.written_type.Simple.TheVariants as simple
use Rattle.idl_trees.specs.declared.written_type.WrittenType.{WrittenType}
use Rattle.idl_trees.specs.declared.written_type.WrittenType.TheOpen.{WrittenType-F}
use Rattle.idl_trees.specs.declared.written_type.WrittenType.TheFolds.{fold-WrittenType}

abbrev pub simple_of : Simple → plain.Simple
simple_of simple.Void = plain.void
simple_of simple.Char = plain.char
simple_of simple.Boolean = plain.boolean
simple_of simple.Byte = plain.byte
simple_of simple.Short = plain.short
simple_of simple.UnsignedShort = plain.unsigned_short
simple_of simple.Long = plain.long
simple_of simple.UnsignedLong = plain.unsigned_long
simple_of simple.Hyper = plain.hyper
simple_of simple.UnsignedHyper = plain.unsigned_hyper
simple_of simple.Float = plain.float
simple_of simple.Double = plain.double
simple_of simple.Str = plain.str
simple_of simple.Kind = plain.kind
simple_of simple.Any = plain.any

-- one level, with the type inside already seen as its plain tree
abbrev pub type_step : WrittenType-F plain.WrittenType → plain.WrittenType
type_step (WrittenType-F.Simple p s) = plain.simple (place_of p) (simple_of s)
type_step (WrittenType-F.Named path) = plain.named (path_of path) plain.no_arguments
type_step (WrittenType-F.SequenceOf p t) = plain.sequence_of (place_of p) t.value

abbrev pub type_of : WrittenType → plain.WrittenType
type_of = fold-WrittenType plain.WrittenType type_step

-- the place of its first token
abbrev pub place_in : plain.WrittenType → Place
place_in (plain.simple p s) = p
place_in (plain.named path args) = path.place
place_in (plain.sequence_of p t) = p
