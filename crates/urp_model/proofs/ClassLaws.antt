-- A class has one number, and a simple type one class.
use Rattle.std.proofs.Common.{◌≡◌, ℕ, ◌<◌, Bool, true, false, ◌==◌, List, [], ◌∷◌, Option, None, Some, if◌then◌else◌, refl, sym, ap, subst, ◌∙◌, arith}
use Rattle.std.specs.Prelude.{MatchOption, ◌≢◌}
use Rattle.std.proofs.lemmas.Bool.{eqb-true}
use Rattle.uno_model.specs.Kinds.{Kind, name_of}
use Rattle.uno_model.specs.Kinds as kd
use Rattle.uno_model.specs.TypeClasses.{class_code, class_of}
use Rattle.uno_model.specs.declared.type_class.TypeClass.{TypeClass}
use Rattle.uno_model.specs.declared.type_class.TypeClass.TheVariants as class
use Rattle.urp_model.specs.NamedKinds.{classes, class_among, class_numbered, simple_kind, is_simple}
use Rattle.uno_model.proofs.Options.{same_some, none_some}

-- a class that is found has that number
found_number : (cs : List TypeClass) (number : ℕ) (c : TypeClass) → class_among cs number ≡ Some c → number ≡ class_code c
unfolding class_among
found_number [] number c is = absurd (none_some is)
found_number (d ∷ cs) number c is = by_test (number == class_code d) refl (found_number cs number c) is
  where
    by_test : (b : Bool) → (number == class_code d) ≡ b → (class_among cs number ≡ Some c → number ≡ class_code c) → (if b then Some d else class_among cs number) ≡ Some c
        → number ≡ class_code c
    by_test true same behind is = eqb-true number (class_code d) same ∙ ap class_code (same_some is)
    by_test false other behind is = behind is

pub number_of_class : (number : ℕ) (c : TypeClass) → class_numbered number ≡ Some c → number ≡ class_code c
number_of_class number c is = found_number classes number c is

-- each class is found by its number
pub class_of_number : (c : TypeClass) → class_numbered (class_code c) ≡ Some c
unfolding class_among
class_of_number class.Void = refl
class_of_number class.Char = refl
class_of_number class.Boolean = refl
class_of_number class.Byte = refl
class_of_number class.Short = refl
class_of_number class.UnsignedShort = refl
class_of_number class.Long = refl
class_of_number class.UnsignedLong = refl
class_of_number class.Hyper = refl
class_of_number class.UnsignedHyper = refl
class_of_number class.Str = refl
class_of_number class.Kind = refl
class_of_number class.Any = refl
class_of_number class.Enum = refl
class_of_number class.Struct = refl
class_of_number class.Exception = refl
class_of_number class.Sequence = refl
class_of_number class.Interface = refl

-- classes of one number are one
pub same_class : (c d : TypeClass) → class_code c ≡ class_code d → c ≡ d
same_class c d same = same_some (sym (class_of_number c) ∙ ap class_numbered same ∙ class_of_number d)

pub class_below : (c : TypeClass) → class_code c < 128
class_below class.Void = omega arith
class_below class.Char = omega arith
class_below class.Boolean = omega arith
class_below class.Byte = omega arith
class_below class.Short = omega arith
class_below class.UnsignedShort = omega arith
class_below class.Long = omega arith
class_below class.UnsignedLong = omega arith
class_below class.Hyper = omega arith
class_below class.UnsignedHyper = omega arith
class_below class.Str = omega arith
class_below class.Kind = omega arith
class_below class.Any = omega arith
class_below class.Enum = omega arith
class_below class.Struct = omega arith
class_below class.Exception = omega arith
class_below class.Sequence = omega arith
class_below class.Interface = omega arith

-- the type of a class that has one is simple and of that class
pub simple_of_class : (c : TypeClass) (k : Kind) → simple_kind c ≡ Some k → (is_simple k ≡ true) × (class_of k ≡ c)
simple_of_class class.Void k is = subst (λ j. (is_simple j ≡ true) × (class_of j ≡ class.Void)) (same_some is) (refl, refl)
simple_of_class class.Char k is = subst (λ j. (is_simple j ≡ true) × (class_of j ≡ class.Char)) (same_some is) (refl, refl)
simple_of_class class.Boolean k is = subst (λ j. (is_simple j ≡ true) × (class_of j ≡ class.Boolean)) (same_some is) (refl, refl)
simple_of_class class.Byte k is = subst (λ j. (is_simple j ≡ true) × (class_of j ≡ class.Byte)) (same_some is) (refl, refl)
simple_of_class class.Short k is = subst (λ j. (is_simple j ≡ true) × (class_of j ≡ class.Short)) (same_some is) (refl, refl)
simple_of_class class.UnsignedShort k is = subst (λ j. (is_simple j ≡ true) × (class_of j ≡ class.UnsignedShort)) (same_some is) (refl, refl)
simple_of_class class.Long k is = subst (λ j. (is_simple j ≡ true) × (class_of j ≡ class.Long)) (same_some is) (refl, refl)
simple_of_class class.UnsignedLong k is = subst (λ j. (is_simple j ≡ true) × (class_of j ≡ class.UnsignedLong)) (same_some is) (refl, refl)
simple_of_class class.Hyper k is = subst (λ j. (is_simple j ≡ true) × (class_of j ≡ class.Hyper)) (same_some is) (refl, refl)
simple_of_class class.UnsignedHyper k is = subst (λ j. (is_simple j ≡ true) × (class_of j ≡ class.UnsignedHyper)) (same_some is) (refl, refl)
simple_of_class class.Str k is = subst (λ j. (is_simple j ≡ true) × (class_of j ≡ class.Str)) (same_some is) (refl, refl)
simple_of_class class.Kind k is = subst (λ j. (is_simple j ≡ true) × (class_of j ≡ class.Kind)) (same_some is) (refl, refl)
simple_of_class class.Any k is = subst (λ j. (is_simple j ≡ true) × (class_of j ≡ class.Any)) (same_some is) (refl, refl)
simple_of_class _ k is = absurd (none_some is)

-- the class of a type has that type where it is simple, and none where it is not
pub class_of_simple : (k : Kind) → is_simple k ≡ true → simple_kind (class_of k) ≡ Some k
class_of_simple kd.void is = refl
class_of_simple kd.char is = refl
class_of_simple kd.boolean is = refl
class_of_simple kd.byte is = refl
class_of_simple kd.short is = refl
class_of_simple kd.unsigned_short is = refl
class_of_simple kd.long is = refl
class_of_simple kd.unsigned_long is = refl
class_of_simple kd.hyper is = refl
class_of_simple kd.unsigned_hyper is = refl
class_of_simple kd.str is = refl
class_of_simple kd.kind is = refl
class_of_simple kd.any is = refl
class_of_simple _ is = absurd cc

pub class_of_named : (k : Kind) → is_simple k ≡ false → simple_kind (class_of k) ≡ None
class_of_named (kd.enum name) is = refl
class_of_named (kd.struct name) is = refl
class_of_named (kd.exception name) is = refl
class_of_named (kd.interface name) is = refl
class_of_named (kd.sequence k) is = refl
class_of_named _ is = absurd cc

-- a type of a class that has no simple type is not simple
pub named_of_class : (k : Kind) → simple_kind (class_of k) ≡ None → is_simple k ≡ false
named_of_class (kd.enum name) is = refl
named_of_class (kd.struct name) is = refl
named_of_class (kd.exception name) is = refl
named_of_class (kd.interface name) is = refl
named_of_class (kd.sequence k) is = refl
named_of_class _ is = absurd cc

-- what tells the class of a number tells the one that is found
pub class_told : (number : ℕ) (o : Option TypeClass) → MatchOption o ((c : TypeClass) → class_code c ≢ number) (λ c. class_code c ≡ number) → o ≡ class_numbered number
class_told number (Some c) told = sym (ap class_numbered (sym told) ∙ class_of_number c)
class_told number None told = by_found (class_numbered number) refl
  where
    by_found : (o : Option TypeClass) → class_numbered number ≡ o → None ≡ class_numbered number
    by_found None found = sym found
    by_found (Some c) found = absurd (told c (sym (number_of_class number c found)))
