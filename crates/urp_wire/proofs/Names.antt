-- What is written of one name, by whether it was held.
use Rattle.std.proofs.Common.{◌≡◌, ℕ, ◌+◌, Bool, true, false, List, [], ◌∷◌, ◌++◌, refl, append_assoc, if◌then◌else◌}
use Rattle.uno_entities.specs.TypeNames.{front_of}
use Rattle.uno_model.specs.Kinds.{Kind, name_of}
use Rattle.uno_model.specs.Kinds as kd
use Rattle.uno_model.specs.TypeClasses.{class_code, class_of}
use Rattle.urp_model.specs.Held.{holds, slot_for, known_if}
use Rattle.urp_model.specs.NamedKinds.{is_simple}
use Rattle.urp_model.specs.Writing.{Names, measured, slot_bytes, kind_written, kind_spelling, name_spelling}
use Rattle.urp_model.specs.declared.known.Known.{Known}
use Rattle.urp_wire.specs.Written.{name_or_nothing, class_and_name, named_spelling, is_sequence}

-- a name of an identity and its slot
pub name_written : (name : List ℕ) (held : Names) (known : Known) (slot : ℕ) (a b c : List ℕ) → slot ≡ slot_for name held → known ≡ known_if (holds name held)
    → b ≡ a ++ name_or_nothing known name → c ≡ b ++ slot_bytes slot → c ≡ a ++ name_spelling name held
unfolding name_spelling
name_written name held known slot a b c at was first second = rw (second, first, at, was, append_assoc) (by_held (holds name held))
  where
    by_held : (t : Bool)
        → a ++ (name_or_nothing (known_if t) name ++ slot_bytes (slot_for name held)) ≡ a ++ ((if t then 0 ∷ [] else measured name) ++ slot_bytes (slot_for name held))
    by_held true = refl
    by_held false = refl

-- a class and its name or its slot
pub class_is_written : (class : ℕ) (name : List ℕ) (held : Names) (known : Known) (slot : ℕ) (a b : List ℕ) → slot ≡ slot_for name held
    → known ≡ known_if (holds name held) → b ≡ a ++ class_and_name known class slot name → b ≡ a ++ named_spelling class name held
class_is_written class name held known slot a b at was is = rw (is, at, was) (by_held (holds name held))
  where
    by_held : (t : Bool) → a ++ class_and_name (known_if t) class (slot_for name held) name
        ≡ a ++ (if t then class ∷ slot_bytes (slot_for name held) else (class + 128) ∷ (slot_bytes (slot_for name held) ++ measured name))
    by_held true = refl
    by_held false = refl

-- a simple type is its class
pub simple_is_written : (k : Kind) (held : Names) (class : ℕ) (a b : List ℕ) → is_simple k ≡ true → class ≡ class_code (class_of k) → b ≡ a ++ class ∷ []
    → b ≡ a ++ kind_spelling k held
unfolding kind_spelling
simple_is_written k held class a b simple of written = rw (written, of, simple) refl

-- a type that is not simple
pub kind_is_written : (k : Kind) (held : Names) (class : ℕ) (name a b : List ℕ) → is_simple k ≡ false → class ≡ class_code (class_of k) → name ≡ name_of k
    → b ≡ a ++ named_spelling class name held → b ≡ a ++ kind_spelling k held
unfolding kind_spelling kind_written
kind_is_written k held class name a b named of is written = rw (written, of, is, named) refl

-- the name of a type that is neither simple nor a sequence is the front of its name
pub front_is_name : (k : Kind) → is_sequence k ≡ false → front_of k ≡ name_of k
front_is_name (kd.sequence k) other = absurd cc
front_is_name _ other = refl
