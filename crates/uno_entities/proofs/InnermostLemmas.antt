-- What is said of a type by the one below all its sequences.
use Rattle.std.proofs.Common.{◌≡◌, ℕ, ◌+◌, ◌*◌, ◌++◌, List, length, refl, codes, arith}
use Rattle.std.specs.Prelude.{Bool, true}
use Rattle.uno_model.specs.Kinds.{Kind, name_of, nesting}
use Rattle.uno_model.specs.Kinds as kd
use Rattle.uno_model.specs.Sound.{is_storable, elements_storable}
use Rattle.uno_model.specs.TypeClasses.{class_of}
use Rattle.uno_model.specs.declared.type_class.TypeClass.TheVariants as class
use Rattle.uno_entities.specs.TypeNames.{innermost, front_of}

-- the elements of each sequence are storable where the innermost is
pub elements_innermost : (k : Kind) → elements_storable (kd.sequence k) ≡ is_storable (innermost k)
elements_innermost (kd.sequence k) = elements_innermost k
elements_innermost kd.void = refl
elements_innermost kd.char = refl
elements_innermost kd.boolean = refl
elements_innermost kd.byte = refl
elements_innermost kd.short = refl
elements_innermost kd.unsigned_short = refl
elements_innermost kd.long = refl
elements_innermost kd.unsigned_long = refl
elements_innermost kd.hyper = refl
elements_innermost kd.unsigned_hyper = refl
elements_innermost kd.str = refl
elements_innermost kd.kind = refl
elements_innermost kd.any = refl
elements_innermost (kd.enum name) = refl
elements_innermost (kd.struct name) = refl
elements_innermost (kd.exception name) = refl
elements_innermost (kd.interface name) = refl

pub sequence_plain : (k : Kind) → class_of k ≡ class.Sequence → elements_storable k ≡ is_storable (innermost k)
sequence_plain k is = grind (arith, elements_innermost)

-- a name is two bytes for each sequence, and the name of the innermost
pub length_innermost : (k : Kind) → length (name_of k) ≡ 2 * nesting k + length (front_of (innermost k))
length_innermost (kd.sequence k) = let inner = length_innermost k in omega arith
length_innermost kd.void = refl
length_innermost kd.char = refl
length_innermost kd.boolean = refl
length_innermost kd.byte = refl
length_innermost kd.short = refl
length_innermost kd.unsigned_short = refl
length_innermost kd.long = refl
length_innermost kd.unsigned_long = refl
length_innermost kd.hyper = refl
length_innermost kd.unsigned_hyper = refl
length_innermost kd.str = refl
length_innermost kd.kind = refl
length_innermost kd.any = refl
length_innermost (kd.enum name) = omega arith
length_innermost (kd.struct name) = omega arith
length_innermost (kd.exception name) = omega arith
length_innermost (kd.interface name) = omega arith
