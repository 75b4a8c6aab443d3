-- Bytes that are a text, and the names of types.
use Rattle.std.proofs.Common.{◌≡◌, ℕ, Bool, true, false, List, None, Some, refl}
use Rattle.std.specs.Prelude.{◌==◌}
use Rattle.std.specs.Str.{is_utf8, IsUtf8}
use Rattle.std.proofs.lemmas.Bool.{ne_eqb, eq-eqb}
use Rattle.std.proofs.lemmas.Str.{is_utf8-from_IsUtf8, IsUtf8-from_is_utf8}
use Rattle.uno_model.specs.Entities.{Entity}
use Rattle.uno_model.specs.Kinds.{Kind}
use Rattle.uno_model.specs.NamedTypes.{IsNamed}
use Rattle.uno_model.specs.Sound.{IsSound}
use Rattle.uno_model.specs.TypeClasses.{class_code, class_of}
use Rattle.uno_model.specs.declared.type_class.TypeClass.{TypeClass}
use Rattle.urp_model.specs.NamedKinds.{kind_named}
use Rattle.urp_model.proofs.KindLaws.{kind_told}

-- what is a text is tested so
pub text_is : (bytes : List ℕ) → IsUtf8 bytes → is_utf8 bytes ≡ true
text_is bytes is = is_utf8-from_IsUtf8 bytes is

pub no_text_is : (bytes : List ℕ) → (IsUtf8 bytes → ⊥) → is_utf8 bytes ≡ false
no_text_is bytes is = by_test (is_utf8 bytes) refl
  where
    by_test : (t : Bool) → is_utf8 bytes ≡ t → is_utf8 bytes ≡ false
    by_test true text = absurd (is (IsUtf8-from_is_utf8 bytes text))
    by_test false other = other

-- a name that no type has, one of a type of another class, and one of a type of that class
pub none_named : (reg : List Entity) (c : TypeClass) (name : List ℕ) → IsSound reg → ((k : Kind) → IsNamed reg name k → ⊥) → None ≡ kind_named reg c name
none_named reg c name sound none = kind_told reg c name sound.named None none

pub other_named : (reg : List Entity) (c : TypeClass) (name : List ℕ) (k : Kind) → IsSound reg → IsNamed reg name k
    → (class_code (class_of k) ≡ class_code c → ⊥) → None ≡ kind_named reg c name
other_named reg c name k sound is other =
    let test : (class_code (class_of k) == class_code c) ≡ false = ne_eqb _ _ other in
    rw test at (kind_told reg c name sound.named (Some k) is)

pub same_named : (reg : List Entity) (c : TypeClass) (name : List ℕ) (k : Kind) → IsSound reg → IsNamed reg name k
    → class_code (class_of k) ≡ class_code c → Some k ≡ kind_named reg c name
same_named reg c name k sound is same =
    let test : (class_code (class_of k) == class_code c) ≡ true = eq-eqb _ _ same in
    rw test at (kind_told reg c name sound.named (Some k) is)
